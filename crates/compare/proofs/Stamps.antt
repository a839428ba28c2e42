-- Stamps have no say in comparing: with others, on either side, the answer and the row are the same.
use mathlib.Core.Path.{◌≡◌, ap, ap₂, ◌∙◌}
use mathlib.Core.Bool.{Bool, cond, not, ◌||◌}
use mathlib.Core.List.{List}
use Prim.Native.Nat.{ℕ, ◌*◌, ◌/◌, ◌%◌, ◌<◌}
use native.Mathlib.Nat.{zero-add}
use native.Mathlib.Omega.{arith}
use lib.Dec.{eqb, ltb}
use lib.ListN.{length}
use Rattle.snapshot.specs.Widths.{event_size}
use Rattle.snapshot.proofs.Stamp.{event-stamp, legal-stamp}
use Rattle.refusal.specs.declared.Trace.{Trace}
use Rattle.refusal.specs.declared.Trace.TheVariants.{First, Second}
use Rattle.refusal.specs.Refusals.{refused, given, in_trace}
use Rattle.replay.specs.Events.{first_illegal}
use Rattle.replay.proofs.Scan.{legal_at, scan-same}
use Rattle.image.specs.Editions.{base}
use Rattle.image.specs.Header.{max_events}
use Rattle.image.specs.Rows.{events_in}
use Rattle.image.specs.Verdicts.{events_verdict}
use Rattle.compare.specs.Places.{differences, SameButStamps}
use Rattle.compare.specs.Comparing.{bad_length, lengths_verdict, trace_verdict, traces_verdict, compare_answer, compare_row}
use Rattle.compare.proofs.Unique.{SameEvents, differences-same}

-- ---- one trace

module _ (a b : List ℕ) (s : SameButStamps a b) where
  count-same : events_in a ≡ events_in b
  count-same = ap (λ (n : ℕ). n / event_size) s.long

  same-events : SameEvents a b
  same-events = record { count = count-same; events = λ i h. event-stamp _ _ (s.before-stamp i h) }

  length-same : bad_length a ≡ bad_length b
  length-same = ap (λ (n : ℕ). not (eqb (n % event_size) 0) || ltb max_events (n / event_size)) s.long

  legal-same : (i : ℕ) → i < events_in a → legal_at base a 0 i ≡ legal_at base b 0 i
  legal-same i h = rw (zero-add (i * event_size)) (legal-stamp _ _ (s.before-stamp i h))

  trace-same : (t : Trace) → trace_verdict t a ≡ trace_verdict t b
  unfolding trace_verdict events_verdict
  trace-same t =
      let first : first_illegal base a 0 0 (events_in a) ≡ first_illegal base b 0 0 (events_in a) =
      scan-same base a b 0 0 (events_in a) (λ i l h. legal-same i (omega arith)) in
      ap (λ (i : ℕ). in_trace t (cond (ltb i (events_in a)) (refused 5 i) (given tt))) first
      ∙ ap (λ (n : ℕ). in_trace t (events_verdict base 5 b 0 n)) count-same

-- ---- both

module _ (a b c d : List ℕ) (s : SameButStamps a b) (t : SameButStamps c d) where
  listed-same : differences a c ≡ differences b d
  listed-same = differences-same a b c d (same-events a b s) (same-events c d t)

  lengths-same : lengths_verdict a c ≡ lengths_verdict b d
  unfolding lengths_verdict
  lengths-same = ap₂ (λ (p q : Bool). cond (p || q) (refused 9 0) (given tt)) (length-same a b s) (length-same c d t)

  pub compare-stamps : (room : ℕ) → compare_answer a c room ≡ compare_answer b d room
  unfolding compare_answer traces_verdict
  compare-stamps room = rw (lengths-same, trace-same a b s First, trace-same c d t Second, listed-same)

  pub row-stamps : (row : List ℕ) → compare_row a c row ≡ compare_row b d row
  unfolding compare_row
  row-stamps row = rw (compare-stamps (length row), listed-same)
