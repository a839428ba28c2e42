-- Document 02, request 1: what comparing answers, and what the lent row holds after. Refusals in their order: 9 for either trace, 5 for the
-- first trace, 5 for the second, 12.
use Rattle.std.specs.Prelude.{Bool, cond, not, ◌||◌, List, ◌++◌, ℕ, ◌%◌, eqb, ltb, length, drop}
use Rattle.snapshot.specs.Widths.{event_size}
use Rattle.refusal.specs.declared.Trace.{Trace}
use Rattle.refusal.specs.declared.Trace.TheVariants.{First, Second}
use Rattle.refusal.specs.Refusals.{Answer, refused, given, in_trace, ◌and_then◌, after}
use Rattle.image.specs.Editions.{base}
use Rattle.image.specs.Header.{max_events}
use Rattle.image.specs.Rows.{events_in}
use Rattle.image.specs.Verdicts.{events_verdict}
use Rattle.compare.specs.Places.{differences}

-- ---- what is refused

-- not a multiple of 12, or over 1,048,576 events
abbrev pub bad_length : List ℕ → Bool
bad_length trace = not (eqb (length trace % event_size) 0) || ltb max_events (events_in trace)

-- 9, which names neither trace
unfoldable pub lengths_verdict : List ℕ → List ℕ → Answer Unit
lengths_verdict first second = cond (bad_length first || bad_length second) (refused 9 0) (given tt)

-- 5 at the first illegal event of this trace
unfoldable pub trace_verdict : Trace → List ℕ → Answer Unit
trace_verdict t trace = in_trace t (events_verdict base 5 trace 0 (events_in trace))

-- 9, then 5 of the first trace, then 5 of the second
unfoldable pub traces_verdict : List ℕ → List ℕ → Answer Unit
traces_verdict first second = lengths_verdict first second and_then trace_verdict First first and_then trace_verdict Second second

-- ---- the call, with a row of room numbers

-- 12 where they are too few for all differences, else how many there are
abbrev pub listed : ℕ → List ℕ → Answer ℕ
listed room places = cond (ltb room (length places)) (refused 12 0) (given (length places))

unfoldable pub compare_answer : List ℕ → List ℕ → ℕ → Answer ℕ
compare_answer first second room = traces_verdict first second and_then listed room (differences first second)

-- the row: the differences, and past them what stood there
unfoldable pub compare_row : List ℕ → List ℕ → List ℕ → List ℕ
compare_row first second row =
    after (compare_answer first second (length row)) row (λ n. differences first second ++ drop n row)
