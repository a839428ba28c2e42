-- `snapshot::event::reserved_zero` meets its contract: bytes 2-3 are one number.
use mathlib.Core.Path.{sym, ap, ◌∙◌}
use Prim.Native.Nat.{ℕ}
use lib.Dec.{eqb}
use Rattle.snapshot.proofs.Offsets.{zero-part}
use Rattle.snapshot.proofs.event.reserved_zero.Goals as goal

pub returns : goal.returns
returns c =
    let a = c.args in
    ap (λ (n : ℕ). eqb n 0) c.read.ensures ∙ sym (zero-part a.s.now a.at)
