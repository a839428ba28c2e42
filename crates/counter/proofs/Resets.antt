-- Laws of the reset, and of what inhibits a count, by mode.
use mathlib.Core.Path.{◌≡◌, sym, ap, ◌∙◌}
use mathlib.Core.Bool.{true, false, cond, not, ◌&&◌, ◌||◌, and_assoc, and-false, or-true, or-false, and-not_self, and-eq-true_iff}
use Prim.Native.Nat.{ℕ}
use borrow.Author.Tests.{ne_eqb}
use lib.IntN.{pos}
use Rattle.word.specs.Masks.{bit, set_bit}
use Rattle.word.proofs.Masks.{bit-set_bit}
use Rattle.word.proofs.Branches.{cond-cases}
use Rattle.counter.specs.declared.state.Counter.{Counter}
use Rattle.counter.specs.Sample.{Count}
use Rattle.counter.specs.Sample.{None}
use Rattle.counter.specs.Sample.{Sampled}
use Rattle.counter.specs.Parts.{CE, LOADED, with_acc, with_levels, flag, mode}
use Rattle.counter.specs.Sample.{rises, falls, has_reset, reset_by, inhibited, by_phase, direction}
use Rattle.counter.specs.Sample.{unmoved, counted_by, resets, may_count, count, sampled, applied, sample}
use Rattle.counter.proofs.Raising.{raise-none}

-- ---- every mode but 7

module _ (m : ℕ) (other : m ≡ 7 → ⊥) where
  pub reset-other : (old new : ℕ) → reset_by m old new ≡ (has_reset m && rises old new 2)
  unfolding reset_by
  reset-other old new = rw (ne_eqb m 7 other)

  pub inhibited-other : (new : ℕ) → inhibited m new ≡ (has_reset m && bit new 3)
  unfolding inhibited
  inhibited-other new = rw (ne_eqb m 7 other, or-false (bit new 3))

-- ---- the sample

module _ (new : ℕ) (c : Counter) where
  -- a reset puts ACC to 0 and stores the levels, and all else stays
  pub reset-leaves : resets new c ≡ true → sample new c ≡ with_acc (pos 0) (with_levels new c)
  unfolding sample sampled
  reset-leaves r = rw r (raise-none (with_acc (pos 0) (with_levels new c)))

  pub reset-count : resets new c ≡ true → count new c ≡ None
  unfolding count
  reset-count r = rw r

  unmoved-sample : sampled new c ≡ unmoved c → sample new c ≡ with_levels new c
  unfolding sample
  unmoved-sample e = ap (λ (r : Sampled). applied r (with_levels new c)) e ∙ raise-none (with_levels new c)

  module _ (other : mode c ≡ 7 → ⊥) where
    pub resets-other : resets new c ≡ (flag c LOADED && has_reset (mode c) && rises c.levels new 2)
    unfolding resets
    resets-other = rw (reset-other (mode c) other c.levels new, and_assoc)

    pub may-count-other : may_count new c ≡ (flag c LOADED && flag c CE && not (has_reset (mode c) && bit new 3))
    unfolding may_count
    may-count-other = rw (inhibited-other (mode c) other new)

  -- ---- mode 7

  module _ (seven : mode c ≡ 7) where
    pub resets-seven : resets new c ≡ (flag c LOADED && falls c.levels new 0 && not (bit new 1) && bit new 2)
    unfolding resets reset_by has_reset
    resets-seven = simp (seven, and_assoc)

    pub may-count-seven : may_count new c ≡ (flag c LOADED && flag c CE && not (bit new 3 || bit new 2))
    unfolding may_count inhibited has_reset
    may-count-seven = rw seven

    may-count-on : bit new 2 ≡ true → may_count new c ≡ false
    may-count-on on = may-count-seven ∙ rw (on, or-true (bit new 3)) (and-false (flag c LOADED && flag c CE))

    -- a reset has input 2 on
    may-count-reset : resets new c ≡ true → may_count new c ≡ false
    may-count-reset r = may-count-on ((and-eq-true_iff (flag c LOADED && falls c.levels new 0 && not (bit new 1)) (bit new 2)).0 (sym resets-seven ∙ r)).1

    -- the counts are those of mode 6
    pub count-seven : count new c ≡ cond (may_count new c) (by_phase c.levels new) None
    unfolding count direction
    count-seven =
        cond-cases (λ (way : Count). way ≡ cond (may_count new c) (by_phase c.levels new) None) (resets new c) None _
        (λ r. rw (may-count-reset r))
        (λ r. rw seven)

    pub count-on : bit new 2 ≡ true → count new c ≡ None
    count-on on = count-seven ∙ rw (may-count-on on)

    resets-high : falls c.levels new 0 ≡ false → resets new c ≡ false
    resets-high high = resets-seven ∙ rw (high, and-false (flag c LOADED))

    -- with input 2 on and no fall of input 0 nothing comes of it but its levels
    pub still-on : bit new 2 ≡ true → falls c.levels new 0 ≡ false → sample new c ≡ with_levels new c
    unfolding sampled counted_by
    still-on on high = unmoved-sample (rw (resets-high high, count-on on))

-- input 2 rises alone
pub rise-alone : (c : Counter) → mode c ≡ 7 → sample (set_bit c.levels 2) c ≡ with_levels (set_bit c.levels 2) c
rise-alone c seven =
    still-on (set_bit c.levels 2) c seven (bit-set_bit c.levels 2 2) (rw (bit-set_bit c.levels 2 0) (and-not_self (bit c.levels 0)))
