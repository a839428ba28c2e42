-- `Moving::write` meets its contract: three numbers side by side are the nine bytes.
use mathlib.Core.Path.{refl}
use mir.Syntax.{w32}
use mir.Val.{SFits}
use Rattle.word.proofs.TwosComplement.{bits-back}
use Rattle.snapshot.proofs.Moving.{moving-written}
use Rattle.snapshot.proofs.split.Moving.write.Goals as goal

pub returns : goal.returns
returns c =
    let fits : SFits w32 c.args.self.acc = record { sfits = c.struct_told-1.given.0.1 } in
    moving-written c.args.bytes.now c.requires (bits-back w32 fits) c.write.ensures refl c.write-2.ensures refl c.write-3.ensures
