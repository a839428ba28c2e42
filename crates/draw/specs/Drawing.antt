-- Document 02, request 2: what drawing answers, and what the lent snapshot and row hold after. Refusals in their order: 9, 5, 6.
use Rattle.std.specs.Prelude.{Bool, cond, not, ◌||◌, List, ℕ, ◌%◌, eqb, ℤ, length}
use Rattle.refusal.specs.Refusals.{Answer, refused, given, told, ◌and_then◌, changed_if}
use Rattle.replay.specs.Events.{run}
use Rattle.replay.specs.Counts.{after_each}
use Rattle.snapshot.specs.Widths.{event_size}
use Rattle.image.specs.declared.edition.Edition.{Edition}
use Rattle.image.specs.Editions.{system, acc_of}
use Rattle.image.specs.Rows.{events_in}
use Rattle.image.specs.Verdicts.{events_verdict}

-- ---- what is refused, with a row of room numbers

-- the snapshot isn't 68 bytes, the events are not a multiple of 12, or the row isn't one number for each event
abbrev pub bad_sizes : Edition → List ℕ → List ℕ → ℕ → Bool
bad_sizes ed snapshot events room =
    not (eqb (length snapshot) (system ed).size) || not (eqb (length events % event_size) 0) || not (eqb room (events_in events))

-- 9
unfoldable pub sizes_verdict : Edition → List ℕ → List ℕ → ℕ → Answer Unit
sizes_verdict ed snapshot events room = cond (bad_sizes ed snapshot events room) (refused 9 0) (given tt)

-- 5 at the first illegal event, by its place as a status tells it
unfoldable pub legal_verdict : Edition → List ℕ → Answer Unit
legal_verdict ed events = told (events_verdict (system ed) 5 events 0 (events_in events))

-- 6, also with no events
unfoldable pub form_verdict : Edition → List ℕ → Answer Unit
form_verdict ed snapshot = cond (not ((system ed).formed snapshot)) (refused 6 0) (given tt)

unfoldable pub draw_verdict : Edition → List ℕ → List ℕ → ℕ → Answer Unit
draw_verdict ed snapshot events room = sizes_verdict ed snapshot events room and_then legal_verdict ed events and_then form_verdict ed snapshot

-- ---- the call: the answer is `draw_verdict`

-- the state after all events, from the one that the snapshot holds
abbrev pub state_after : (ed : Edition) → List ℕ → List ℕ → (system ed).State
state_after ed snapshot events = run (system ed) ((system ed).decode snapshot) events 0 (events_in events)

-- the snapshot: that state's
abbrev pub draw_snapshot : Edition → List ℕ → List ℕ → ℕ → List ℕ
draw_snapshot ed snapshot events room = changed_if (draw_verdict ed snapshot events room) snapshot ((system ed).encode (state_after ed snapshot events))

-- the accumulator after each event
abbrev pub counts : Edition → List ℕ → List ℕ → List ℤ
counts ed snapshot events = after_each (system ed) (acc_of ed) ((system ed).decode snapshot) events 0 0 (events_in events)

-- the row: these numbers
abbrev pub draw_row : Edition → List ℕ → List ℕ → List ℤ → List ℤ
draw_row ed snapshot events row = changed_if (draw_verdict ed snapshot events (length row)) row (counts ed snapshot events)
