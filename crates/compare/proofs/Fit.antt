-- What 9 and 5 leave: two traces are not refused exactly where each is a row of events, not too long, and each of its events is legal.
use mathlib.Core.Path.{◌≡◌, sym, ap, ◌∙◌}
use mathlib.Core.Logic.{◌↔◌}
use mathlib.Core.Bool.{Bool, true, false, not, ◌||◌}
use mathlib.Core.List.{List}
use Prim.Native.Nat.{ℕ, ◌*◌, ◌%◌, ◌≤◌, ◌<◌}
use native.Mathlib.Nat.{zero-add}
use native.Mathlib.Omega.{arith}
use borrow.Author.Tests.{ltb-false, le-ltb, eqb-true, eq-eqb, not-false}
use lib.Dec.{eqb, ltb}
use lib.ListN.{length}
use Rattle.word.specs.Part.{Bytes, part}
use Rattle.snapshot.specs.Widths.{event_size}
use Rattle.snapshot.specs.EventBytes.{legal_event}
use Rattle.refusal.specs.declared.Trace.{Trace}
use Rattle.refusal.specs.declared.Trace.TheVariants.{First, Second}
use Rattle.refusal.specs.Refusals.{given, in_trace}
use Rattle.refusal.proofs.Answers.{passed, none_of, in-passed, both-passed}
use Rattle.replay.proofs.Scan.{legal_at}
use Rattle.image.specs.Editions.{base}
use Rattle.image.specs.Header.{max_events}
use Rattle.image.specs.Rows.{events_in}
use Rattle.image.specs.Verdicts.{events_verdict}
use Rattle.image.proofs.Accepted.{all-legal, legal-all}
use Rattle.compare.specs.Places.{shared}
use Rattle.compare.specs.Comparing.{bad_length, lengths_verdict, trace_verdict, traces_verdict}
use Rattle.compare.proofs.Events.{Inside}

pub record Fit (trace : List ℕ) : Type 0 where
  pub whole : length trace ≡ events_in trace * event_size
  pub few : events_in trace ≤ max_events
  pub legal : (i : ℕ) → i < events_in trace → legal_event (part trace (i * event_size) event_size) ≡ true

-- ---- one trace

module _ (trace : List ℕ) where
  abbrev whole : Bool
  whole = eqb (length trace % event_size) 0

  pub at-first : (i : ℕ) → legal_at base trace 0 i ≡ legal_event (part trace (i * event_size) event_size)
  at-first i = ap (λ (p : ℕ). legal_event (part trace p event_size)) (zero-add (i * event_size))

  length-few : bad_length trace ≡ false → events_in trace ≤ max_events
  length-few e = ltb-false max_events (events_in trace) (none_of (not whole) (ltb max_events (events_in trace)) e).1

  -- what 5 leaves of it
  pub verdict-legal : (t : Trace) → trace_verdict t trace ≡ given tt → (i : ℕ) → i < events_in trace
      → legal_event (part trace (i * event_size) event_size) ≡ true
  unfolding trace_verdict
  verdict-legal t v i h =
      sym (at-first i) ∙ all-legal base trace 0 5 (events_in trace) (in-passed t (events_verdict base 5 trace 0 (events_in trace)) v) i h

  trace-fit : (t : Trace) → bad_length trace ≡ false → trace_verdict t trace ≡ given tt → Fit trace
  trace-fit t e v =
      let rows = (none_of (not whole) (ltb max_events (events_in trace)) e).0 in
      let none = eqb-true (length trace % event_size) 0 (not-false whole rows) in
      record { whole = omega (arith, none); few = length-few e; legal = verdict-legal t v }

  fit-length : Fit trace → bad_length trace ≡ false
  fit-length f = rw (eq-eqb (length trace % event_size) 0 (omega (arith, f.whole)), le-ltb max_events (events_in trace) f.few)

  fit-trace : (t : Trace) → Fit trace → trace_verdict t trace ≡ given tt
  unfolding trace_verdict
  fit-trace t f = ap (in_trace t) (legal-all base trace 0 5 (events_in trace) (λ i h. at-first i ∙ f.legal i h))

-- an event within the shorter
pub inside-both : (first second : List ℕ) (i : ℕ) → i < shared first second → Bytes first → Bytes second → Inside first i × Inside second i
inside-both first second i h p q = (record { inside = omega arith; bytes = p }, record { inside = omega arith; bytes = q })

-- ---- both

module _ (first second : List ℕ) where
  lengths-good : lengths_verdict first second ≡ given tt → (bad_length first ≡ false) × (bad_length second ≡ false)
  unfolding lengths_verdict
  lengths-good e = none_of (bad_length first) (bad_length second) (passed (bad_length first || bad_length second) 9 0 (given tt) e).0

  good-lengths : bad_length first ≡ false → bad_length second ≡ false → lengths_verdict first second ≡ given tt
  unfolding lengths_verdict
  good-lengths e f = rw (e, f)

  pub lengths-few : lengths_verdict first second ≡ given tt → (events_in first ≤ max_events) × (events_in second ≤ max_events)
  lengths-few e = (length-few first (lengths-good e).0, length-few second (lengths-good e).1)

  pub traces-fit : traces_verdict first second ≡ given tt → Fit first × Fit second
  unfolding traces_verdict
  traces-fit e =
      let one = both-passed (lengths_verdict first second) _ e in
      let two = both-passed (trace_verdict First first) (trace_verdict Second second) one.1 in
      let good = lengths-good one.0 in
      (trace-fit first First good.0 two.0, trace-fit second Second good.1 two.1)

  pub fit-traces : Fit first → Fit second → traces_verdict first second ≡ given tt
  unfolding traces_verdict
  fit-traces f g = rw (good-lengths (fit-length first f) (fit-length second g), fit-trace first First f, fit-trace second Second g)

  -- neither 9 nor 5
  pub traces-accepted : (traces_verdict first second ≡ given tt) ↔ (Fit first × Fit second)
  traces-accepted = (traces-fit, λ f. fit-traces f.0 f.1)

  pub shared-few : traces_verdict first second ≡ given tt → shared first second ≤ max_events
  shared-few e = omega (arith, (traces-fit e).0.few)
