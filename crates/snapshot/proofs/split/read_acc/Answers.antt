-- `snapshot::split::read_acc` meets its contract: ACC is the first of the numbers beside the snapshot.
use mir.Syntax.{w32}
use mathlib.Core.Path.{sym, ap, ◌∙◌}
use mir.Facts.{to_z-of_z}
use Rattle.counter.specs.declared.state.Counter.{Counter}
use Rattle.snapshot.proofs.Moving.{split-parts}
use Rattle.snapshot.proofs.split.read_acc.Goals as goal

pub returns : goal.returns
returns c =
    let a = c.args in
    to_z-of_z {w = w32} (record { sfits = c.read.type_inv }) ∙ c.read.ensures ∙ sym (ap (λ (d : Counter). d.acc) (split-parts a.s.now a.moving.now))
