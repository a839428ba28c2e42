-- Counting at the limits: overflow and underflow come by the count past the limit alone, a preset by the count that lands on it alone, and
-- a rollover raises no preset. The cause is one of three by two tests.
use mathlib.Core.Path.{◌≡◌, refl, sym, ap, ◌∙◌}
use mathlib.Core.Logic.{◌↔◌}
use mathlib.Core.Bool.{Bool, true, false, cond, true≢false, false≢true}
use Prim.Native.Nat.{ℕ}
use borrow.Author.Tests.{eqb-false}
use lib.Dec.{eqb}
use lib.IntN.{ℤ, pos, ◌+ℤ◌, ◌-ℤ◌}
use lib.Signed.{le_z}
use Rattle.word.specs.TwosComplement.{eq_z}
use Rattle.word.proofs.Branches.{eq_z-refl, eq_z-true}
use Rattle.accumulator.specs.Causes.{low_preset, high_preset, underflow, overflow}
use Rattle.accumulator.specs.Count.{Counted, up, down}

-- ---- one of three causes

module _ (p q : ℕ) (apart : eqb p q ≡ false) (some : eqb p 0 ≡ false) (other : eqb q 0 ≡ false) where
  pub rolls : (a b : Bool) → (cond a p (cond b q 0) ≡ p) ↔ (a ≡ true)
  rolls true b = (λ e. refl, λ e. refl)
  rolls false true = (λ e. absurd (eqb-false p q apart (sym e)), λ e. absurd (false≢true e))
  rolls false false = (λ e. absurd (eqb-false p 0 some (sym e)), λ e. absurd (false≢true e))

  pub meets : (a b : Bool) → (cond a p (cond b q 0) ≡ q) ↔ ((a ≡ false) × (b ≡ true))
  meets true b = (λ e. absurd (eqb-false p q apart e), λ e. absurd (true≢false e.0))
  meets false true = (λ e. (refl, refl), λ e. refl)
  meets false false = (λ e. absurd (eqb-false q 0 other (sym e)), λ e. absurd (false≢true e.1))

-- the cause of a choice of counts
cause-cond : (b : Bool) (x y : Counted) → (cond b x y).cause ≡ cond b x.cause y.cause
cause-cond true x y = refl
cause-cond false x y = refl

either : (b : Bool) (n : ℕ) → cond b n n ≡ n
either true n = refl
either false n = refl

-- equality of numbers for its test
lands : {A : Type 0} (x y : ℤ) → (A × (eq_z x y ≡ true)) ↔ (A × (x ≡ y))
lands x y = (λ h. (h.0, eq_z-true x y h.1), λ h. (h.0, ap (eq_z x) (sym h.1) ∙ eq_z-refl x))

then : {A B C : Type 0} → A ↔ B → B ↔ C → A ↔ C
then f g = (λ a. g.0 (f.0 a), λ c. f.1 (g.1 c))

-- ---- up

module _ (single : Bool) (acc hip ovf unf : ℤ) where
  pub up-cause : (up single acc hip ovf unf).cause ≡ cond (le_z ovf acc) overflow (cond (eq_z (acc +ℤ pos 1) hip) high_preset 0)
  unfolding up
  up-cause = simp (cause-cond, either)

  -- overflow exactly by the count past OVF
  pub up-overflow : ((up single acc hip ovf unf).cause ≡ overflow) ↔ (le_z ovf acc ≡ true)
  up-overflow = rw up-cause (rolls overflow high_preset refl refl refl (le_z ovf acc) (eq_z (acc +ℤ pos 1) hip))

  -- the high preset exactly by the count that lands on it; a rollover raises none
  pub up-preset : ((up single acc hip ovf unf).cause ≡ high_preset) ↔ ((le_z ovf acc ≡ false) × (acc +ℤ pos 1 ≡ hip))
  up-preset = rw up-cause (then (meets overflow high_preset refl refl refl (le_z ovf acc) (eq_z (acc +ℤ pos 1) hip)) (lands (acc +ℤ pos 1) hip))

-- ---- down

module _ (acc lop ovf unf : ℤ) where
  pub down-cause : (down acc lop ovf unf).cause ≡ cond (le_z acc unf) underflow (cond (eq_z (acc -ℤ pos 1) lop) low_preset 0)
  unfolding down
  down-cause = simp cause-cond

  -- underflow exactly by the count past UNF
  pub down-underflow : ((down acc lop ovf unf).cause ≡ underflow) ↔ (le_z acc unf ≡ true)
  down-underflow = rw down-cause (rolls underflow low_preset refl refl refl (le_z acc unf) (eq_z (acc -ℤ pos 1) lop))

  -- the low preset exactly by the count that lands on it; a rollover raises none
  pub down-preset : ((down acc lop ovf unf).cause ≡ low_preset) ↔ ((le_z acc unf ≡ false) × (acc -ℤ pos 1 ≡ lop))
  down-preset = rw down-cause (then (meets underflow low_preset refl refl refl (le_z acc unf) (eq_z (acc -ℤ pos 1) lop)) (lands (acc -ℤ pos 1) lop))
