-- Laws of the mode's number, by the tests that tell it: below 0 and past 7 there is no mode.
use mathlib.Core.Path.{◌≡◌, refl, sym, ◌∙◌}
use mathlib.Core.Bool.{true, false, false≢true}
use Prim.Native.Nat.{◌<◌}
use borrow.Author.Tests.{ltb-true}
use lib.Dec.{T, leb-suc-zero}
use lib.IntN.{ℤ, pos, negsuc, nat_abs}
use lib.Signed.{lt_z, non_neg}
use Rattle.counter.specs.Parts.{mode_of}

pub mode_of-negative : (z : ℤ) → lt_z z (pos 0) ≡ true → mode_of z ≡ 8
unfolding mode_of
mode_of-negative (pos n) t = absurd (false≢true (sym (leb-suc-zero n) ∙ t))
mode_of-negative (negsuc n) t = refl

pub mode_of-past : (z : ℤ) → lt_z z (pos 8) ≡ false → mode_of z ≡ 8
unfolding mode_of
mode_of-past (pos n) t = rw t
mode_of-past (negsuc n) t = refl

-- a mode is its own number
pub record Mode (z : ℤ) : Type 0 where
  pub whole : T (non_neg z)
  pub small : nat_abs z < 8
  pub same : nat_abs z ≡ mode_of z

pub is-mode : (z : ℤ) → lt_z z (pos 0) ≡ false → lt_z z (pos 8) ≡ true → Mode z
unfolding mode_of
is-mode (pos n) p t = record { whole = tt; small = ltb-true n 8 t; same = rw t }
is-mode (negsuc n) p t = absurd (false≢true (sym p))
