-- The desk stays well formed, whatever the greatest cause is: a cause that starts, waits or is lost, and a routine that is done.
use mathlib.Core.Path.{◌≡◌, refl, sym, ◌∙◌}
use mathlib.Core.Bool.{Bool, true, false, cond, not, ◌||◌, or-true, false≢true, true≢false}
use mathlib.Core.List.{List, [], ◌∷◌}
use Prim.Native.Nat.{ℕ, zero, suc, ◌+◌, ◌-◌, ◌≤◌, ◌<◌}
use native.Mathlib.Omega.{arith}
use borrow.Author.Tests.{ltb-true, ltb-false, eqb-true, eqb-false, eq-eqb}
use lib.Dec.{eqb, ltb}
use lib.ListN.{length, get_or, set, length-set}
use Rattle.counter.specs.declared.desk.Desk.{Desk}
use Rattle.counter.specs.declared.desk.Outcome.TheVariants.{Starts, Waits, Lost}
use Rattle.counter.specs.Desk.{Cause, Nothing}
use Rattle.counter.specs.Desk.{first, second, queued_of, waits, starting, waiting, posted, post, resting, advancing, finished, finish}

-- ---- the queue alone

-- a number that is a cause's
pub record IsCause (most n : ℕ) : Type 0 where
  pub some : eqb n 0 ≡ false
  pub small : n ≤ most

-- the two waiting places and their number
pub record Queue (most first second queued : ℕ) : Type 0 where
  pub first-le : first ≤ most
  pub second-le : second ≤ most
  pub order : (eqb second 0 || not (eqb first 0)) ≡ true
  pub counted : queued ≡ queued_of first second
  pub differ : (eqb second 0 || not (eqb first second)) ≡ true

-- a cause that does not wait is not the first that does
not-first : (a b : Bool) → (a || b) ≡ false → a ≡ false
not-first true b e = absurd (true≢false e)
not-first false b e = refl

module _ {most : ℕ} where
  -- where none is counted, both places are empty
  queue-empty : (a b n : ℕ) → n ≡ 0 → Queue most a b n → (eqb a 0 ≡ true) × (eqb b 0 ≡ true)
  unfolding queued_of
  queue-empty a b n z q = go (eqb a 0) (eqb b 0) q.counted q.order
    where
      go : (x y : Bool) → n ≡ cond x 0 (cond y 1 2) → (y || not x) ≡ true → (x ≡ true) × (y ≡ true)
      go true true e o = (refl, refl)
      go true false e o = (refl, o)
      go false true e o = absurd (omega arith)
      go false false e o = absurd (omega arith)

  -- where some are counted, the first place is taken
  queue-first : (a b n : ℕ) → eqb n 0 ≡ false → Queue most a b n → eqb a 0 ≡ false
  unfolding queued_of
  queue-first a b n z q = go (eqb a 0) (eqb b 0) q.counted
    where
      go : (x y : Bool) → n ≡ cond x 0 (cond y 1 2) → x ≡ false
      go true y e = absurd (eqb-false n 0 z e)
      go false y e = refl

  -- where two are counted, both places are taken
  pub queue-full : (a b n : ℕ) → ltb n 2 ≡ false → Queue most a b n → (eqb a 0 ≡ false) × (eqb b 0 ≡ false)
  unfolding queued_of
  queue-full a b n f q = go (eqb a 0) (eqb b 0) q.counted
    where
      two : 2 ≤ n
      two = ltb-false n 2 f

      go : (x y : Bool) → n ≡ cond x 0 (cond y 1 2) → (x ≡ false) × (y ≡ false)
      go true y e = absurd (omega (arith, two))
      go false true e = absurd (omega (arith, two))
      go false false e = (refl, refl)

  -- two that wait differ
  pub queue-differ : (a b n : ℕ) → eqb b 0 ≡ false → Queue most a b n → a ≡ b → ⊥
  queue-differ a b n two q same = false≢true (sym (rw (two, eq-eqb a b same)) ∙ q.differ)

  -- one more cause behind those that wait, which it is none of
  queue-more : (l : List ℕ) (cause n : ℕ) → length l ≡ 2 → IsCause most cause → waits cause (get_or l 0 0) (get_or l 1 0) ≡ false → n < 2
      → Queue most (get_or l 0 0) (get_or l 1 0) n → Queue most (get_or (set l n cause) 0 0) (get_or (set l n cause) 1 0) (n + 1)
  unfolding queued_of
  queue-more [] cause n e c m h q = absurd (omega arith)
  queue-more (a ∷ []) cause n e c m h q = absurd (omega arith)
  queue-more (a ∷ b ∷ l) cause zero e c m h q =
      let none : eqb b 0 ≡ true = (queue-empty a b 0 refl q).1 in
      record { first-le = c.small; second-le = q.second-le; order = rw none; counted = rw (c.some, none); differ = rw none }
  queue-more (a ∷ b ∷ l) cause (suc zero) e c m h q =
      let one : eqb a 0 ≡ false = queue-first a b 1 refl q in
      record {
        first-le = q.first-le;
        second-le = c.small;
        order = rw (c.some, one);
        counted = rw (one, c.some);
        differ = rw (not-first (eqb a cause) (eqb b cause) m) (or-true (eqb cause 0));
      }
  queue-more (a ∷ b ∷ l) cause (suc (suc n)) e c m h q = absurd (omega arith)

  -- the first taken away
  queue-less : (a b n : ℕ) → eqb n 0 ≡ false → Queue most a b n → Queue most b 0 (n - 1)
  unfolding queued_of
  queue-less a b n z q =
      record {
        first-le = q.second-le;
        second-le = omega arith;
        order = refl;
        counted = go (eqb b 0) (q.counted ∙ rw (queue-first a b n z q));
        differ = refl;
      }
    where
      go : (y : Bool) → n ≡ cond y 1 2 → n - 1 ≡ cond y 0 1
      go true e = rw e
      go false e = rw e

-- ---- the desk

-- causes up to `most`, a first waiting one only with one running
pub record Causes (most : ℕ) (d : Desk) : Type 0 where
  pub running-le : d.running ≤ most
  pub queue : Queue most (first d) (second d) d.queued
  pub served : (eqb (first d) 0 || not (eqb d.running 0)) ≡ true

-- a well-formed desk: its causes, and two places for those that wait
pub record WellDesk (most : ℕ) (d : Desk) : Type 0 where
  pub causes : Causes most d
  pub places : length d.waiting ≡ 2

module _ {most : ℕ} (d : Desk) (w : WellDesk most d) where
  k : Causes most d
  k = w.causes

  well-starting : (cause : ℕ) → IsCause most cause → WellDesk most (starting cause d)
  well-starting cause h =
      record { causes = record { running-le = h.small; queue = k.queue; served = rw h.some (or-true (eqb (first d) 0)) }; places = w.places }

  well-waiting : (cause : ℕ) → IsCause most cause → waits cause (first d) (second d) ≡ false → eqb d.running 0 ≡ false → ltb d.queued 2 ≡ true
      → WellDesk most (waiting cause d)
  well-waiting cause h m r q =
      record {
        causes = record {
          running-le = k.running-le;
          queue = queue-more d.waiting cause d.queued w.places h m (ltb-true d.queued 2 q) k.queue;
          served = rw r (or-true (eqb (first (waiting cause d)) 0));
        };
        places = length-set d.waiting d.queued cause ∙ w.places;
      }

  well-resting : eqb d.queued 0 ≡ true → WellDesk most (resting d)
  well-resting z =
      let none : eqb (first d) 0 ≡ true = (queue-empty (first d) (second d) d.queued (eqb-true d.queued 0 z) k.queue).0 in
      record { causes = record { running-le = omega arith; queue = k.queue; served = rw none }; places = w.places }

  well-advancing : eqb d.queued 0 ≡ false → WellDesk most (advancing d)
  well-advancing z =
      record {
        causes = record {
          running-le = k.queue.first-le;
          queue = queue-less (first d) (second d) d.queued z k.queue;
          served = rw (queue-first (first d) (second d) d.queued z k.queue) (or-true (eqb (second d) 0));
        };
        places = refl;
      }

  pub well-post : (cause : ℕ) → IsCause most cause → WellDesk most (post cause d).desk
  unfolding post
  well-post cause h = go (waits cause (first d) (second d)) (eqb d.running 0) (ltb d.queued 2) refl refl refl
    where
      go : (m a b : Bool) → waits cause (first d) (second d) ≡ m → eqb d.running 0 ≡ a → ltb d.queued 2 ≡ b
          → WellDesk most (cond m (posted d Waits) (cond a (posted (starting cause d) Starts) (cond b (posted (waiting cause d) Waits) (posted d Lost)))).desk
      go true a b e p q = w
      go false true b e p q = well-starting cause h
      go false false true e p q = well-waiting cause h e p q
      go false false false e p q = w

  pub well-finish : WellDesk most (finish d).desk
  unfolding finish
  well-finish = go (eqb d.running 0) (eqb d.queued 0) refl
    where
      go : (a b : Bool) → eqb d.queued 0 ≡ b
          → WellDesk most (cond a (finished d Nothing) (cond b (finished (resting d) Nothing) (finished (advancing d) (Cause (first d))))).desk
      go true b q = w
      go false true q = well-resting q
      go false false q = well-advancing q
