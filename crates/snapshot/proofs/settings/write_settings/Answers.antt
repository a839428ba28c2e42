-- `snapshot::settings::write_settings` meets its contract: nine writes side by side are one row, and a signed setting is written by its bits.
use mathlib.Core.Path.{refl}
use mir.Syntax.{w16, w32}
use Rattle.word.specs.Layouts.{total}
use Rattle.word.proofs.TwosComplement.{bits-back}
use Rattle.word.proofs.Writes.{then, end, wrote}
use Rattle.counter.proofs.Typing.{settings-typed}
use Rattle.snapshot.proofs.settings.write_settings.Goals as goal

pub returns : goal.returns
unfolding total
returns c =
    let f = settings-typed c.args.v _ c.struct_told-1.given in
    wrote c.args.s.now (bits-back w16 f.pfn) c.write.ensures
    (then (bits-back w16 f.mode) c.write-2.ensures
    (then (bits-back w32 f.hip) c.write-3.ensures
    (then (bits-back w32 f.lop) c.write-4.ensures
    (then (bits-back w32 f.ovf) c.write-5.ensures
    (then (bits-back w32 f.unf) c.write-6.ensures
    (then refl c.write-7.ensures
    (then refl c.write-8.ensures
    (then refl c.write-9.ensures end))))))))
    c.requires
