-- `snapshot::event::read_event` meets its contract: kind and sub are single bytes, the value is read from its bits.
use mir.Syntax.{w32}
use Rattle.word.proofs.TwosComplement.{signed-read}
use Rattle.snapshot.proofs.Offsets.{event-part}
use Rattle.snapshot.proofs.event.read_event.Goals as goal

pub returns : goal.returns
returns c =
    rw (event-part c.args.s.now c.args.at)
    (λ i. record {
      kind = c.read.ensures i;
      sub = c.read-2.ensures i;
      value = signed-read w32 (record { sfits = c.read-3.type_inv }) c.read-3.ensures i;
    })
