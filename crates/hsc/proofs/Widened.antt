-- Numbers cast to 32 bits with a sign stay as they are: a signed one of 16 bits, a bit.
use mathlib.Core.Path.{◌≡◌, refl, sym, ap, subst, ◌∙◌}
use mathlib.Core.Bool.{Bool, true, false}
use lib.IntN.{ℤ}
use mir.Syntax.{w16, w32}
use mir.Val.{SFits, to_z, of_z, bool_byte}
use mir.Facts.{sfits_widen, to_z-of_z}
use Rattle.hsc.specs.Fields.{bit_field}

module _ {z : ℤ} (fits : SFits w16 z) where
  pub widens : SFits w32 (to_z w16 (of_z w16 z))
  widens = subst (SFits w32) (sym (to_z-of_z fits)) (sfits_widen tt fits)

  pub widened : to_z w32 (of_z w32 (to_z w16 (of_z w16 z))) ≡ z
  widened = ap (λ (y : ℤ). to_z w32 (of_z w32 y)) (to_z-of_z fits) ∙ to_z-of_z {w = w32} (sfits_widen tt fits)

-- a bit that a call answered
pub bit-answer : {a b : Bool} → a ≡ b → to_z w32 (bool_byte a) ≡ bit_field b
bit-answer {a} e = as-number a ∙ ap bit_field e
  where
    as-number : (b : Bool) → to_z w32 (bool_byte b) ≡ bit_field b
    as-number true = refl
    as-number false = refl
