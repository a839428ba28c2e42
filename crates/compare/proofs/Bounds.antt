-- The numbers of comparing's answer fit 32 bits: a refusal's place, and how many places differ.
use mathlib.Core.Path.{◌≡◌}
use mathlib.Core.Bool.{◌||◌}
use mathlib.Core.List.{List}
use Prim.Native.Nat.{ℕ, zero, suc, ◌≤◌}
use native.Mathlib.Nat.{le_refl}
use native.Mathlib.Omega.{arith}
use lib.Dec.{ltb}
use lib.ListN.{length}
use Rattle.word.proofs.Branches.{cond-cases}
use Rattle.refusal.specs.declared.Trace.{Trace}
use Rattle.refusal.specs.declared.Trace.TheVariants.{First, Second}
use Rattle.refusal.specs.Refusals.{given, Placed}
use Rattle.refusal.proofs.Answers.{passed, both-passed, placed-test, placed-in, placed-then}
use Rattle.image.specs.Editions.{base}
use Rattle.image.specs.Header.{max_events}
use Rattle.image.specs.Rows.{events_in}
use Rattle.image.specs.Verdicts.{events_verdict}
use Rattle.image.proofs.Bounds.{events-placed}
use Rattle.compare.specs.Places.{same_at, differing, shared, differences}
use Rattle.compare.specs.Comparing.{bad_length, lengths_verdict, trace_verdict, traces_verdict, compare_answer}
use Rattle.compare.proofs.Fit.{lengths-few, shared-few}

-- there are no more differences than places
length-differing : (first second : List ℕ) (i n : ℕ) → length (differing first second i n) ≤ n
unfolding differing
length-differing first second i zero = le_refl 0
length-differing first second i (suc n) =
    cond-cases (λ (l : List ℕ). length l ≤ suc n) (same_at first second i) _ _
    (λ _. omega (arith, length-differing first second (suc i) n)) (λ _. omega (arith, length-differing first second (suc i) n))

module _ (first second : List ℕ) (room : ℕ) where
  trace-placed : (t : Trace) (trace : List ℕ) → events_in trace ≤ max_events → Placed (trace_verdict t trace)
  unfolding trace_verdict
  trace-placed t trace h = placed-in t (events_verdict base 5 trace 0 (events_in trace)) (events-placed base 5 trace 0 (events_in trace) h)

  lengths-placed : Placed (lengths_verdict first second)
  unfolding lengths_verdict
  lengths-placed = placed-test (bad_length first || bad_length second) 9 (given tt) (λ _. tt)

  traces-placed : Placed (traces_verdict first second)
  unfolding traces_verdict
  traces-placed =
      placed-then (lengths_verdict first second) _ lengths-placed λ e.
      let few = lengths-few first second e in
      placed-then (trace_verdict First first) (trace_verdict Second second) (trace-placed First first few.0) λ _.
      trace-placed Second second few.1

  pub compare-placed : Placed (compare_answer first second room)
  unfolding compare_answer
  compare-placed =
      let n : ℕ = length (differences first second) in
      placed-then (traces_verdict first second) _ traces-placed λ _.
      placed-test (ltb room n) 12 (given n) (λ _. tt)

  -- what is given is how many places differ, at most the events' limit
  pub compare-given : {n : ℕ} → compare_answer first second room ≡ given n → (traces_verdict first second ≡ given tt) × (length (differences first second) ≡ n)
  unfolding compare_answer
  compare-given {n} e =
      let all : ℕ = length (differences first second) in
      let both = both-passed (traces_verdict first second) _ e in
      let same = (passed (ltb room all) 12 0 (given all) both.1).1 in
      (both.0, cc)

  pub compare-few : {n : ℕ} → compare_answer first second room ≡ given n → n ≤ max_events
  compare-few e =
      let g = compare-given e in
      omega (arith, g.1, length-differing first second 0 (shared first second), shared-few first second g.0)
