-- No other rising list holds exactly the places that differ; so the list is empty for a trace and itself, the same for the traces exchanged, and
-- the same for traces with the same events.
use mathlib.Core.Path.{◌≡◌, refl, sym, ap₂, subst, ◌∙◌}
use mathlib.Core.Logic.{inl, inr, ⊎_elim, ◌↔◌}
use mathlib.Core.Bool.{Bool, true, false, false≢true}
use mathlib.Core.List.{List, [], ◌∷◌}
use Prim.Native.Nat.{ℕ, ◌<◌}
use native.Mathlib.Omega.{arith}
use Rattle.image.specs.Rows.{events_in}
use Rattle.compare.specs.Places.{event_at, same_at, differences, ◌∈◌, Rising, DiffersAt}
use Rattle.compare.proofs.Events.{same-at, at-same}
use Rattle.compare.proofs.Exact.{listed-exactly, differences-rising}

none-in : (l : List ℕ) → ((i : ℕ) → i ∈ l → ⊥) → l ≡ []
unfolding ◌∈◌
none-in [] h = refl
none-in (x ∷ l) h = absurd (h x (inl refl))

rising-ext : (l m : List ℕ) → Rising l → Rising m → ((i : ℕ) → i ∈ l → i ∈ m) → ((i : ℕ) → i ∈ m → i ∈ l) → l ≡ m
unfolding ◌∈◌ Rising
rising-ext [] m r q to from = sym (none-in m from)
rising-ext (x ∷ l) [] r q to from = none-in (x ∷ l) to
rising-ext (x ∷ l) (y ∷ m) r q to from =
    let first : x ≡ y = ⊎_elim (λ e. e) (λ k. ⊎_elim (λ e. sym e) (λ n. absurd (omega (arith, q.0 x k, r.0 y n))) (from y (inl refl))) (to x (inl refl)) in
    ap₂ ◌∷◌ first
    (rising-ext l m r.1 q.1
    (λ i k. ⊎_elim (λ e. absurd (omega (arith, e, first, r.0 i k))) (λ n. n) (to i (inr k)))
    (λ i n. ⊎_elim (λ e. absurd (omega (arith, e, first, q.0 i n))) (λ k. k) (from i (inr n))))

module _ (first second : List ℕ) where
  pub differences-only : (l : List ℕ) → Rising l → ((i : ℕ) → (i ∈ l) ↔ DiffersAt first second i) → l ≡ differences first second
  differences-only l r e =
      rising-ext l (differences first second) r (differences-rising first second) (λ i m. (listed-exactly first second i).1 ((e i).0 m))
      (λ i m. (e i).1 ((listed-exactly first second i).0 m))

  -- a list that is empty says that no event differs
  pub none-differs : differences first second ≡ [] → (i : ℕ) → i < events_in first → i < events_in second → event_at first i ≡ event_at second i
  unfolding ◌∈◌
  none-differs e i h k = go (same_at first second i) refl
    where
      go : (b : Bool) → same_at first second i ≡ b → event_at first i ≡ event_at second i
      go true same = same-at first second i same
      go false other =
          let d : DiffersAt first second i =
          record { within-first = h; within-second = k; other = λ q. false≢true (sym other ∙ at-same first second i q) } in
          absurd (subst (λ (l : List ℕ). i ∈ l) e ((listed-exactly first second i).1 d))

-- ---- a trace and itself, the traces exchanged, and traces with the same events

pub differences-self : (trace : List ℕ) → differences trace trace ≡ []
differences-self trace = none-in (differences trace trace) (λ i m. ((listed-exactly trace trace i).0 m).other refl)

exchanged : {a b : List ℕ} {i : ℕ} → DiffersAt a b i → DiffersAt b a i
exchanged d = record { within-first = d.within-second; within-second = d.within-first; other = λ e. d.other (sym e) }

pub differences-exchanged : (first second : List ℕ) → differences first second ≡ differences second first
differences-exchanged first second =
    differences-only second first (differences first second) (differences-rising first second)
    (λ i. (λ m. exchanged ((listed-exactly first second i).0 m), λ d. (listed-exactly first second i).1 (exchanged d)))

-- as many events, with the same kinds, subs and values
pub record SameEvents (a b : List ℕ) : Type 0 where
  pub count : events_in a ≡ events_in b
  pub events : (i : ℕ) → i < events_in a → event_at a i ≡ event_at b i

-- a place that differs goes over
moved : {a b c d : List ℕ} {i : ℕ} → SameEvents a b → SameEvents c d → DiffersAt a c i → DiffersAt b d i
moved {i = i} p q x =
    record {
      within-first = subst (λ (n : ℕ). i < n) p.count x.within-first;
      within-second = subst (λ (n : ℕ). i < n) q.count x.within-second;
      other = λ e. x.other (p.events i x.within-first ∙ e ∙ sym (q.events i x.within-second));
    }

back : {a b : List ℕ} → SameEvents a b → SameEvents b a
back {a} {b} p = record { count = sym p.count; events = λ i h. sym (p.events i (subst (λ (n : ℕ). i < n) (sym p.count) h)) }

pub differences-same : (a b c d : List ℕ) → SameEvents a b → SameEvents c d → differences a c ≡ differences b d
differences-same a b c d p q =
    differences-only b d (differences a c) (differences-rising a c)
    (λ i. (λ m. moved p q ((listed-exactly a c i).0 m), λ x. (listed-exactly a c i).1 (moved (back p) (back q) x)))
