-- What is claimed of the reset in mode 7 (document 02, request 4): each statement whole, proved by naming the law that stands in `counter`'s
-- `proofs/`. `sample` is what an input sample does to a counter, in each call that takes one.
use mathlib.Core.Path.{◌≡◌}
use mathlib.Core.Bool.{true, false, cond, not, ◌&&◌, ◌||◌}
use Prim.Native.Nat.{ℕ}
use lib.IntN.{pos}
use Rattle.word.specs.Masks.{bit, set_bit}
use Rattle.counter.specs.declared.state.Counter.{Counter}
use Rattle.counter.specs.Parts.{CE, LOADED, with_acc, with_levels, flag, mode}
use Rattle.counter.specs.Sample.{None, rises, falls, has_reset, by_phase, resets, may_count, count, sample}
use Rattle.counter.proofs as counter

-- ---- mode 7

-- input 2, rising alone, changes nothing but the levels
pub rise-alone : (c : Counter) → mode c ≡ 7 → sample (set_bit c.levels 2) c ≡ with_levels (set_bit c.levels 2) c
rise-alone = counter.Resets.rise-alone

module _ (new : ℕ) (c : Counter) where
  module _ (seven : mode c ≡ 7) where
    -- a sample resets exactly if settings are loaded and input 0 falls with 1 off and 2 on: neither CE nor hold (input 3) is asked
    pub resets-seven : resets new c ≡ (flag c LOADED && falls c.levels new 0 && not (bit new 1) && bit new 2)
    resets-seven = counter.Resets.resets-seven new c seven

    -- it may count if CE is 1 and inputs 3 and 2 are off, and then counts as mode 6 does
    pub may-count-seven : may_count new c ≡ (flag c LOADED && flag c CE && not (bit new 3 || bit new 2))
    may-count-seven = counter.Resets.may-count-seven new c seven

    pub count-seven : count new c ≡ cond (may_count new c) (by_phase c.levels new) None
    count-seven = counter.Resets.count-seven new c seven

    -- so never with input 2 on, where nothing but the levels changes unless input 0 falls
    pub count-on : bit new 2 ≡ true → count new c ≡ None
    count-on = counter.Resets.count-on new c seven

    pub still-on : bit new 2 ≡ true → falls c.levels new 0 ≡ false → sample new c ≡ with_levels new c
    still-on = counter.Resets.still-on new c seven

  -- ---- a reset, in any mode

  -- ACC is 0 and the levels are new; all else stays, DIR and the causes among it, and there is no count
  pub reset-leaves : resets new c ≡ true → sample new c ≡ with_acc (pos 0) (with_levels new c)
  reset-leaves = counter.Resets.reset-leaves new c

  pub reset-count : resets new c ≡ true → count new c ≡ None
  reset-count = counter.Resets.reset-count new c

  -- ---- the other modes, by document 01's rule: 1, 3 and 5 reset where input 2 rises, and are held by input 3

  module _ (other : mode c ≡ 7 → ⊥) where
    pub resets-other : resets new c ≡ (flag c LOADED && has_reset (mode c) && rises c.levels new 2)
    resets-other = counter.Resets.resets-other new c other

    pub may-count-other : may_count new c ≡ (flag c LOADED && flag c CE && not (has_reset (mode c) && bit new 3))
    may-count-other = counter.Resets.may-count-other new c other
