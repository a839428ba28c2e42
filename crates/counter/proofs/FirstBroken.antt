-- The number of the first test that fails, by induction on the row of tests: it is one of the row's numbers, it stands where the tests before
-- it pass, and it is 0 where all pass. Of two rows it is the first's, and the second's where all of the first pass.
use mathlib.Core.Path.{◌≡◌, refl, ap, ◌∙◌}
use mathlib.Core.Logic.{◌↔◌, ◌⊎◌, inl, inr, ⊎_elim}
use mathlib.Core.Bool.{Bool, true, false, cond, true≢false, false≢true}
use mathlib.Core.List.{List, [], ◌∷◌, ◌++◌}
use Prim.Native.Nat.{ℕ, zero, suc, ◌+◌, ◌≤◌, ◌<◌}
use native.Mathlib.Nat.{le_refl, le_of_suc-le-suc}
use native.Mathlib.Omega.{arith}
use borrow.Author.Tests.{ne_eqb}
use lib.Dec.{eqb, lit<}
use lib.ListN.{length, get_or}
use Rattle.counter.specs.declared.state.Settings.{Settings}
use Rattle.counter.specs.Parts.{mode_of}
use Rattle.counter.specs.Loading.{rule1, rule2, rule6, preset_rules, rules, broken_from, first_broken, preset_broken, First, AllPass}

pub broken-le : (n : ℕ) (bs : List Bool) → broken_from (suc n) bs ≤ n + length bs
unfolding broken_from
broken-le n [] = omega arith
broken-le n (true ∷ bs) = omega (arith, broken-le (suc n) bs)
broken-le n (false ∷ bs) = omega arith

first-from : (n : ℕ) (bs : List Bool) → (broken_from n bs ≡ 0) ⊎ (n ≤ broken_from n bs)
unfolding broken_from
first-from n [] = inl refl
first-from n (true ∷ bs) = ⊎_elim (λ e. inl e) (λ h. inr (omega arith)) (first-from (suc n) bs)
first-from n (false ∷ bs) = inr (le_refl n)

number-first : (n : ℕ) (bs : List Bool) (k : ℕ) → 0 < n → broken_from n bs ≡ n + k → First bs k
unfolding broken_from
number-first n [] k h e = absurd (omega arith)
number-first n (true ∷ bs) zero h e = absurd (⊎_elim (λ p. omega arith) (λ p. omega arith) (first-from (suc n) bs))
number-first n (true ∷ bs) (suc k) h e =
    let r : First bs k = number-first (suc n) bs k (omega arith) (omega arith) in
    record { broken = r.broken; before = before r }
  where
    before : First bs k → (i : ℕ) → i < suc k → get_or (true ∷ bs) i true ≡ true
    before r zero l = refl
    before r (suc i) l = r.before i (le_of_suc-le-suc l)
number-first n (false ∷ bs) zero h e = record { broken = refl; before = λ i l. absurd (omega arith) }
number-first n (false ∷ bs) (suc k) h e = absurd (omega arith)

first-number : (n : ℕ) (bs : List Bool) (k : ℕ) → First bs k → broken_from n bs ≡ n + k
unfolding broken_from
first-number n [] k f = absurd (true≢false f.broken)
first-number n (true ∷ bs) zero f = absurd (true≢false f.broken)
first-number n (true ∷ bs) (suc k) f =
    first-number (suc n) bs k (record { broken = f.broken; before = λ i l. f.before (suc i) (omega arith) }) ∙ omega arith
first-number n (false ∷ bs) zero f = omega arith
first-number n (false ∷ bs) (suc k) f = absurd (false≢true (f.before zero (omega arith)))

pass-number : (n : ℕ) (bs : List Bool) → AllPass bs → broken_from n bs ≡ 0
unfolding broken_from
pass-number n [] h = refl
pass-number n (true ∷ bs) h = pass-number (suc n) bs (λ i. h (suc i))
pass-number n (false ∷ bs) h = absurd (false≢true (h zero))

number-pass : (n : ℕ) (bs : List Bool) → 0 < n → broken_from n bs ≡ 0 → AllPass bs
unfolding broken_from
number-pass n [] p e i = refl
number-pass n (true ∷ bs) p e zero = refl
number-pass n (true ∷ bs) p e (suc i) = number-pass (suc n) bs (omega arith) e i
number-pass n (false ∷ bs) p e i = absurd (omega arith)

pub first-exact : (n : ℕ) (bs : List Bool) (k : ℕ) → 0 < n → (broken_from n bs ≡ n + k) ↔ First bs k
first-exact n bs k h = (number-first n bs k h, first-number n bs k)

pub pass-exact : (n : ℕ) (bs : List Bool) → 0 < n → (broken_from n bs ≡ 0) ↔ AllPass bs
pass-exact n bs h = (number-pass n bs h, pass-number n bs)

-- ---- two rows

broken-append : (n : ℕ) (bs cs : List Bool) → 0 < n
    → broken_from n (bs ++ cs) ≡ cond (eqb (broken_from n bs) 0) (broken_from (n + length bs) cs) (broken_from n bs)
unfolding broken_from
broken-append n [] cs h = ap (λ (k : ℕ). broken_from k cs) (omega arith)
broken-append n (true ∷ bs) cs h =
    let number : ℕ = broken_from (suc n) bs in
    broken-append (suc n) bs cs (omega arith) ∙ ap (λ (k : ℕ). cond (eqb number 0) (broken_from k cs) number) (omega arith)
broken-append n (false ∷ bs) cs h = rw (ne_eqb n 0 (λ e. omega arith))

-- ---- the rules

pub passes-all : (s : Settings) → first_broken s ≡ 0 → AllPass (rules s)
unfolding first_broken
passes-all s h = (pass-exact 1 (rules s) (lit< tt)).0 h

-- all of them, by those of the presets
pub first-presets : (s : Settings)
    → first_broken s
    ≡ cond (rule1 s.pfn)
    (cond (rule2 (mode_of s.mode)) (cond (eqb (preset_broken s s) 0) (cond (rule6 s.omb) 0 6) (preset_broken s s)) 2) 1
unfolding first_broken preset_broken broken_from
first-presets s = rw (broken-append 3 (preset_rules s s) (rule6 s.omb ∷ []) (lit< tt))
