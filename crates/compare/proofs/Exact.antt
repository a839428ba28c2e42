-- The list of differences holds exactly the places that differ, in rising order.
use mathlib.Core.Path.{◌≡◌, sym, ap, ◌∙◌}
use mathlib.Core.Logic.{◌⊎◌, inl, inr, ⊎_elim, ◌↔◌}
use mathlib.Core.Bool.{false, false≢true}
use mathlib.Core.List.{List, ◌∷◌}
use Prim.Native.Nat.{ℕ, zero, suc, ◌+◌, ◌≤◌, ◌<◌}
use native.Mathlib.Decide.{dec_lt}
use native.Mathlib.Omega.{arith}
use Rattle.word.proofs.Branches.{cond-cases}
use Rattle.compare.specs.Places.{same_at, differing, shared, differences, ◌∈◌, Rising, DiffersAt}
use Rattle.compare.proofs.Events.{at-same, other-at}

module _ (first second : List ℕ) where
  -- one of the n places from k on that differs
  record From (k n i : ℕ) : Type 0 where
    pub from : k ≤ i
    pub to : i < k + n
    pub other : same_at first second i ≡ false

  later : {k n i : ℕ} → From (suc k) n i → From k (suc n) i
  later f = record { from = omega (arith, f.from); to = omega (arith, f.to); other = f.other }

  listed-from : (k n i : ℕ) → i ∈ differing first second k n → From k n i
  unfolding differing ◌∈◌
  listed-from k zero i m = absurd m
  listed-from k (suc n) i m =
      cond-cases (λ (l : List ℕ). i ∈ l → From k (suc n) i) (same_at first second k) (differing first second (suc k) n) (k ∷ differing first second (suc k) n)
      (λ _ later-on. later (listed-from (suc k) n i later-on))
      (λ e. ⊎_elim
      (λ here. record { from = omega (arith, here); to = omega (arith, here); other = ap (same_at first second) here ∙ e })
      (λ later-on. later (listed-from (suc k) n i later-on)))
      m

  here-or-later : {k n i : ℕ} → From k (suc n) i → (i ≡ k) ⊎ From (suc k) n i
  here-or-later {k} {n} {i} f = go (dec_lt k i)
    where
      go : Dec (k < i) → (i ≡ k) ⊎ From (suc k) n i
      go (yes l) = inr (record { from = l; to = omega (arith, f.to); other = f.other })
      go (no l) = inl (omega (arith, f.from))

  from-listed : (k n i : ℕ) → From k n i → i ∈ differing first second k n
  unfolding differing ◌∈◌
  from-listed k zero i f = absurd (omega (arith, f.from, f.to))
  from-listed k (suc n) i f =
      cond-cases (λ (l : List ℕ). i ∈ l) (same_at first second k) (differing first second (suc k) n) (k ∷ differing first second (suc k) n)
      (λ same. ⊎_elim
      (λ here. absurd (false≢true (sym f.other ∙ ap (same_at first second) here ∙ same)))
      (from-listed (suc k) n i)
      (here-or-later f))
      (λ _. ⊎_elim inl (λ later-on. inr (from-listed (suc k) n i later-on)) (here-or-later f))

  rising : (k n : ℕ) → Rising (differing first second k n)
  unfolding differing Rising
  rising k zero = tt
  rising k (suc n) =
      cond-cases Rising (same_at first second k) _ _ (λ _. rising (suc k) n)
      (λ _. (λ i m. omega (arith, (listed-from (suc k) n i m).from), rising (suc k) n))

  -- place i is listed exactly if it is below both lengths and the events there differ
  pub listed-exactly : (i : ℕ) → (i ∈ differences first second) ↔ DiffersAt first second i
  listed-exactly i = (to, from)
    where
      to : i ∈ differences first second → DiffersAt first second i
      to m =
          let f = listed-from 0 (shared first second) i m in
          record {
            within-first = omega (arith, f.to);
            within-second = omega (arith, f.to);
            other = λ e. false≢true (sym f.other ∙ at-same first second i e);
          }

      from : DiffersAt first second i → i ∈ differences first second
      from d =
          from-listed 0 (shared first second) i
          (record { from = omega arith; to = omega (arith, d.within-first, d.within-second); other = other-at first second i d.other })

  pub differences-rising : Rising (differences first second)
  differences-rising = rising 0 (shared first second)
