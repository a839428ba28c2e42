-- `snapshot::codec::decode` meets its contract: each part is read at its place.
use mir.Syntax.{w32}
use Rattle.word.proofs.TwosComplement.{signed-read}
use Rattle.snapshot.proofs.Offsets.{decode-part}
use Rattle.snapshot.proofs.codec.decode.Goals as goal

pub returns : goal.returns
returns c =
    rw (decode-part c.args.s.now c.args.at)
    (λ i. record {
      staged = c.read_settings.ensures i;
      active = c.read_settings-2.ensures i;
      acc = signed-read w32 (record { sfits = c.read.type_inv }) c.read.ensures i;
      out = c.read-2.ensures i;
      er = c.read-3.ensures i;
      flags = c.read-4.ensures i;
      levels = c.read-5.ensures i;
      desk = c.read_desk.ensures i;
    })
