-- Laws of an idle sample: nothing comes of it but its levels.
use mathlib.Core.Path.{◌≡◌, refl, ◌∙◌}
use mathlib.Core.Bool.{Bool, true, false, cond, not, ◌&&◌, and-false, and-eq-true_iff, false≢true}
use Prim.Native.Nat.{ℕ, zero, suc, ◌<◌}
use native.Mathlib.Omega.{arith}
use borrow.Author.Tests.{eqb-true, eqb-false, not-true}
use lib.Dec.{eqb, ltb, lit<}
use Rattle.counter.specs.declared.state.Counter.{Counter}
use Rattle.counter.specs.Sample.{Count}
use Rattle.counter.specs.Sample.{None}
use Rattle.counter.specs.Parts.{LOADED, flag, mode}
use Rattle.counter.specs.Sample.{rises, has_reset, alone_up, by_level, by_input, direction}
use Rattle.counter.specs.Sample.{unmoved, counted_by, resets, may_count, count, sampled}
use Rattle.counter.specs.Idle.{none_rises, by_rises, idle}
use Rattle.counter.proofs.Resets.{resets-other}

-- ---- none rises exactly where each of them does not

-- one input more
and-last : (old new k n : ℕ) → rises old new k ≡ false → (n < k → rises old new n ≡ false) → n < suc k → rises old new n ≡ false
and-last old new k n last below h = go (eqb n k) refl
  where
    go : (e : Bool) → eqb n k ≡ e → rises old new n ≡ false
    go true p = rw (eqb-true n k p) last
    go false p = below (omega (arith, h, eqb-false n k p))

pub none-rises : (old new k n : ℕ) → none_rises old new k ≡ true → n < k → rises old new n ≡ false
unfolding none_rises
none-rises old new zero n t h = absurd (omega arith)
none-rises old new (suc k) n t h =
    let both = (and-eq-true_iff (not (rises old new k)) (none_rises old new k)).0 t in
    and-last old new k n (not-true (rises old new k) both.0) (none-rises old new k n both.1) h

pub rises-none : (old new k : ℕ) → ((n : ℕ) → n < k → rises old new n ≡ false) → none_rises old new k ≡ true
unfolding none_rises
rises-none old new zero none = refl
rises-none old new (suc k) none = rw (none k (omega arith), rises-none old new k (λ n h. none n (omega arith)))

-- ---- the sample

cond-same : (t : Bool) (way : Count) → cond t way way ≡ way
cond-same true way = refl
cond-same false way = refl

-- modes 0 to 5 count where input 0 or input 1 rises
direction-idle : (m old new : ℕ) → rises old new 0 ≡ false → rises old new 1 ≡ false → by_rises m ≡ true → direction m old new ≡ None
unfolding direction alone_up by_level by_input by_rises
direction-idle m old new first second low =
    rw (first, second, low, cond-same (ltb m 4) None, cond-same (ltb m 2) None)

module _ (new : ℕ) (c : Counter) (still : idle new c ≡ true) where
  both : (none_rises c.levels new 8 ≡ true) × (by_rises (mode c) ≡ true)
  unfolding idle
  both = (and-eq-true_iff (none_rises c.levels new 8) (by_rises (mode c))).0 still

  none : (n : ℕ) → n < 8 → rises c.levels new n ≡ false
  none n = none-rises c.levels new 8 n both.0

  other : mode c ≡ 7 → ⊥
  unfolding by_rises
  other seven = false≢true (rw seven at both).1

  resets-idle : resets new c ≡ false
  resets-idle = resets-other new c other ∙ rw (none 2 (lit< tt)) (and-false (flag c LOADED && has_reset (mode c)))

  count-idle : count new c ≡ None
  unfolding count
  count-idle =
      rw (resets-idle, direction-idle (mode c) c.levels new (none 0 (lit< tt)) (none 1 (lit< tt)) both.1, cond-same (may_count new c) None)

  -- nothing comes of it but its levels
  pub sampled-idle : sampled new c ≡ unmoved c
  unfolding sampled counted_by
  sampled-idle = rw (resets-idle, count-idle)
