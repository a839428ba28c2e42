-- What a legal event tells of its sub and value.
use mathlib.Core.Path.{◌≡◌, refl, sym, ◌∙◌}
use mathlib.Core.Bool.{Bool, true, false, false≢true}
use Prim.Native.Nat.{ℕ, ◌≤◌, ◌<◌}
use native.Mathlib.Omega.{arith}
use borrow.Author.Tests.{ne_eqb, ltb-true, ltb-false}
use lib.Dec.{ltb}
use lib.IntN.{ℤ}
use Rattle.counter.specs.Events.{takes_bit, takes_zero, legal_flag}
use Rattle.counter.proofs.Ranges.{over}

pub no-flag : (sub : ℕ) (v : ℤ) → 19 ≤ sub → legal_flag sub v ≡ false
unfolding legal_flag takes_bit takes_zero
no-flag sub v h =
    rw (
      ne_eqb sub 0 (omega arith),
      ne_eqb sub 2 (omega arith),
      over 5 10 sub (omega arith),
      ne_eqb sub 1 (omega arith),
      over 11 14 sub (omega arith),
      over 16 18 sub (omega arith),
    )

-- a flag write names a flag below 19
pub flag-below : (sub : ℕ) (v : ℤ) → legal_flag sub v ≡ true → sub < 19
flag-below sub v t = below (ltb sub 19) refl
  where
    below : (b : Bool) → ltb sub 19 ≡ b → sub < 19
    below true e = ltb-true sub 19 e
    below false e = absurd (false≢true (sym (no-flag sub v (ltb-false sub 19 e)) ∙ t))
