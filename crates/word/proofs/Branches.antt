-- A function's branches against a definition by `cond`: what a test in the code says of the definition's test. `search (branches, rules)`
-- closes a return of a function that tests plain numbers in the definition's order.
use mathlib.Core.Path.{◌≡◌, refl, sym, ap, ◌∙◌, subst}
use mathlib.Core.Bool.{Bool, true, false, cond, false≢true}
use borrow.Author.Tests.{lt-ltb, le-ltb, le-leb, lt-leb, eq-eqb, ne_eqb, eqb-true, eqb-false}
use lib.Dec.{eqb}
use lib.IntN.{ℤ, pos, negsuc}
use lib.Signed.{lt_z, le_z}
use mir.Syntax.{Width}
use mir.Val.{SFits, to_z, of_z}
use mir.Facts.{to_z-of_z}
use Rattle.word.specs.TwosComplement.{eq_z}

-- ---- the branch that is taken

pub yes-branch : (A : Type 0) (b : Bool) (x y z : A) → b ≡ true → z ≡ x → z ≡ cond b x y
yes-branch A b x y z e p = subst (λ (t : Bool). z ≡ cond t x y) (sym e) p

pub no-branch : (A : Type 0) (b : Bool) (x y z : A) → b ≡ false → z ≡ y → z ≡ cond b x y
no-branch A b x y z e p = subst (λ (t : Bool). z ≡ cond t x y) (sym e) p

-- a choice by a test, by what the test says
pub cond-cases {ℓ} : {A : Type 0} (P : A → Type ℓ) (t : Bool) (x y : A) → (t ≡ true → P x) → (t ≡ false → P y) → P (cond t x y)
cond-cases P true x y p q = p refl
cond-cases P false x y p q = q refl

-- what a call's answer is, and what a test of that answer said
pub answer-is : {A : Type 0} {r b v : A} → r ≡ b → r ≡ v → b ≡ v
answer-is e t = sym e ∙ t

-- two tests that hold together
pub agree : (a b : Bool) → (a ≡ true → b ≡ true) → (b ≡ true → a ≡ true) → a ≡ b
agree true b p q = sym (p refl)
agree false true p q = q refl
agree false false p q = refl

-- ---- equality of signed numbers

pub eq_z-refl : (x : ℤ) → eq_z x x ≡ true
eq_z-refl (pos n) = eq-eqb n n refl
eq_z-refl (negsuc n) = eq-eqb n n refl

pub eq_z-true : (x y : ℤ) → eq_z x y ≡ true → x ≡ y
eq_z-true (pos a) (pos b) e = ap pos (eqb-true a b e)
eq_z-true (pos a) (negsuc b) e = absurd (false≢true e)
eq_z-true (negsuc a) (pos b) e = absurd (false≢true e)
eq_z-true (negsuc a) (negsuc b) e = ap negsuc (eqb-true a b e)

pub eq_z-false : (x y : ℤ) → (x ≡ y → ⊥) → eq_z x y ≡ false
eq_z-false x y h = go (eq_z x y) refl
  where
    go : (b : Bool) → eq_z x y ≡ b → b ≡ false
    go true e = absurd (h (eq_z-true x y e))
    go false e = refl

-- ---- tests of signed numbers, which the code makes on their bits

module _ {w : Width} {x y : ℤ} (f : SFits w x) (g : SFits w y) where
  pub lt-signed : {b : Bool} → lt_z (to_z w (of_z w x)) (to_z w (of_z w y)) ≡ b → lt_z x y ≡ b
  lt-signed e = rw (to_z-of_z f, to_z-of_z g) at e

  pub le-signed : {b : Bool} → le_z (to_z w (of_z w x)) (to_z w (of_z w y)) ≡ b → le_z x y ≡ b
  le-signed e = rw (to_z-of_z f, to_z-of_z g) at e

  same-bits : of_z w x ≡ of_z w y → x ≡ y
  same-bits e = sym (to_z-of_z f) ∙ ap (to_z w) e ∙ to_z-of_z g

  -- `==` of signed numbers, as a value
  pub eq-bits : eqb (of_z w x) (of_z w y) ≡ eq_z x y
  eq-bits = go (eqb (of_z w x) (of_z w y)) refl
    where
      go : (b : Bool) → eqb (of_z w x) (of_z w y) ≡ b → b ≡ eq_z x y
      go true e = sym (ap (λ (z : ℤ). eq_z x z) (sym (same-bits (eqb-true (of_z w x) (of_z w y) e))) ∙ eq_z-refl x)
      go false e = sym (eq_z-false x y (λ q. eqb-false (of_z w x) (of_z w y) e (ap (of_z w) q)))

  pub eq-signed : of_z w x ≡ of_z w y → eq_z x y ≡ true
  eq-signed e = ap (λ (z : ℤ). eq_z x z) (sym (same-bits e)) ∙ eq_z-refl x

  pub ne-signed : (of_z w x ≡ of_z w y → ⊥) → eq_z x y ≡ false
  ne-signed h = eq_z-false x y (λ e. h (ap (of_z w) e))

pub ruleset branches = (yes-branch, no-branch, lt-ltb, le-ltb, le-leb, lt-leb, eq-eqb, ne_eqb, lt-signed, le-signed, eq-signed, ne-signed)

-- the same where the tests are of what calls answered
pub ruleset calls = (answer-is, branches)
