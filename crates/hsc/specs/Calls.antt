-- Document 01, "Trace image": event check is refused by 9 alone, step by 9, 5 and 6 in this order, reading by 9 and 6, each at place 0. None is
-- given otherwise. Replay and mending of an image are the `image` crates'.
use Rattle.std.specs.Prelude.{cond, not, List, [], ◌∷◌, ℕ, zero, suc, ◌*◌, eqb, ℤ, length}
use Rattle.word.specs.Part.{part}
use Rattle.snapshot.specs.Widths.{snapshot_size, event_size}
use Rattle.snapshot.specs.Snapshots.{encode, decode}
use Rattle.snapshot.specs.FormedBytes.{formed}
use Rattle.snapshot.specs.EventBytes.{legal_event, step_event}
use Rattle.image_mend.specs.declared.Span.{Span}
use Rattle.refusal.specs.Refusals.{Answer, refused, given, trace_number, status_of, after, changed_if}
use Rattle.image.specs.declared.edition.Edition.TheVariants.{Base}
use Rattle.image.specs.Verdicts.{replay_verdict}
use Rattle.image_mend.specs.Mends.{mend_answer}
use Rattle.compare.specs.Comparing.{compare_answer}
use Rattle.compare.specs.Rest.{rest_trace, rest_place, rest_of}
use Rattle.draw.specs.Drawing.{draw_verdict}
use Rattle.receive.specs.Calls.{feed_verdict, end_verdict}
use Rattle.hsc.specs.Fields.{fields_of}

-- ---- event check: 9, else 1 for yes or 0 for no

unfoldable pub check_answer : List ℕ → ℕ
check_answer event = cond (not (eqb (length event) event_size)) 9 (cond (legal_event event) 1 0)

-- ---- step

-- 5, then 6, where every length is right
abbrev pub event_verdict : List ℕ → List ℕ → Answer Unit
event_verdict snapshot event = cond (not (legal_event event)) (refused 5 0) (cond (not (formed snapshot)) (refused 6 0) (given tt))

unfoldable pub step_verdict : List ℕ → List ℕ → Answer Unit
step_verdict snapshot event =
    cond (not (eqb (length snapshot) snapshot_size)) (refused 9 0)
    (cond (not (eqb (length event) event_size)) (refused 9 0) (event_verdict snapshot event))

abbrev pub step_answer : List ℕ → List ℕ → ℕ
step_answer snapshot event = status_of (step_verdict snapshot event)

-- the next snapshot over the lent one
abbrev pub step_after : List ℕ → List ℕ → List ℕ
step_after snapshot event = changed_if (step_verdict snapshot event) snapshot (encode (step_event event (decode snapshot)))

-- the snapshot after n steps, by the events of a row in order
unfoldable pub steps_after : List ℕ → List ℕ → ℕ → List ℕ
steps_after snapshot events zero = snapshot
steps_after snapshot events (suc n) = step_after (steps_after snapshot events n) (part events (n * event_size) event_size)

-- ---- drawing (document 02, request 2): the snapshot after is `draw_snapshot`, the row `draw_row`

abbrev pub draw_status : List ℕ → List ℕ → List ℤ → ℕ
draw_status snapshot events row = status_of (draw_verdict Base snapshot events (length row))

-- ---- reading

unfoldable pub read_verdict : List ℕ → Answer Unit
read_verdict snapshot = cond (not (eqb (length snapshot) snapshot_size)) (refused 9 0) (cond (not (formed snapshot)) (refused 6 0) (given tt))

abbrev pub read_answer : List ℕ → ℕ
read_answer snapshot = status_of (read_verdict snapshot)

abbrev pub read_after : List ℕ → List ℤ → List ℤ
read_after snapshot fields = changed_if (read_verdict snapshot) fields (fields_of (decode snapshot))

-- ---- replay: the image after is `replay_image`, the lent snapshot `replay_last`

abbrev pub replay_status : List ℕ → ℕ
replay_status image = status_of (replay_verdict image)

-- ---- mending: the image after is `mend_image`

abbrev pub mend_status : List ℕ → ℕ → List ℕ → ℕ
mend_status image first patch = status_of (mend_answer image first patch)

-- s + 1, the stop and the events run
abbrev pub mend_span : List ℕ → ℕ → List ℕ → List ℕ → List ℕ
mend_span image first patch span = after (mend_answer image first patch) span (λ (s : Span). s.first ∷ s.stop ∷ s.ran ∷ [])

-- ---- comparing two traces (document 02, request 1): the row after is `compare_row`

abbrev pub compare_status : List ℕ → List ℕ → List ℕ → ℕ
compare_status first second row = status_of (compare_answer first second (length row))

-- how many places differ
abbrev pub compare_count : List ℕ → List ℕ → List ℕ → ℕ → ℕ
compare_count first second row count = after (compare_answer first second (length row)) count (λ n. n)

-- ---- the rest of the longer trace (document 02, request 1)

-- 1 for the first trace, 2 for the second
abbrev pub rest_number : List ℕ → List ℕ → ℕ
rest_number first second = trace_number (rest_trace first second)

-- the place of its first byte in that trace, and its length
abbrev pub rest_part : List ℕ → List ℕ → List ℕ
rest_part first second = rest_place first second ∷ length (rest_of first second) ∷ []

-- ---- a trace in chunks (document 02, request 5): the reader, the buffer and the two numbers after are those of crate `receive`

abbrev pub feed_status : (reader chunk buffer : List ℕ) → ℕ
feed_status reader chunk buffer = status_of (feed_verdict reader chunk buffer)

abbrev pub end_status : (reader buffer : List ℕ) → ℕ
end_status reader buffer = status_of (end_verdict reader buffer)
