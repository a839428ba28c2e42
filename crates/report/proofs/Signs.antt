-- A signed number's text, by its size: a negative one's has a minus sign before it.
use mathlib.Core.Path.{◌≡◌, refl, sym, ◌∙◌}
use mathlib.Core.Bool.{true, false, false≢true}
use mathlib.Core.List.{◌∷◌}
use Prim.Native.Nat.{suc, ◌≤◌}
use native.Mathlib.Omega.{arith}
use lib.Dec.{leb-suc-zero}
use lib.IntN.{ℤ, pos, negsuc, nat_abs}
use lib.ListN.{length}
use lib.Signed.{lt_z}
use Rattle.report.specs.Line.{decimal, signed_decimal}
use Rattle.report.proofs.Digits.{length-decimal}

pub negative-text : (v : ℤ) → lt_z v (pos 0) ≡ true → 45 ∷ decimal (nat_abs v) ≡ signed_decimal v
unfolding signed_decimal
negative-text (pos n) t = absurd (false≢true (sym (leb-suc-zero n) ∙ t))
negative-text (negsuc k) t = refl

pub other-text : (v : ℤ) → lt_z v (pos 0) ≡ false → decimal (nat_abs v) ≡ signed_decimal v
unfolding signed_decimal
other-text (pos n) t = refl
other-text (negsuc k) t = absurd (false≢true (sym t))

pub length-signed : (v : ℤ) → length (signed_decimal v) ≤ 21
unfolding signed_decimal
length-signed (pos n) = omega (arith, length-decimal 20 n)
length-signed (negsuc n) = omega (arith, length-decimal 20 (suc n))
