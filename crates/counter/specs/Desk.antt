-- Document 01, "One input sample", last paragraph, with document 02's request 7, and event kind 7: the running cause and the waiting ones.
-- A cause is any number but 0, which stands for none.
use Rattle.std.specs.Prelude.{Bool, cond, ◌||◌, List, [], ◌∷◌, ℕ, ◌+◌, ◌-◌, eqb, ltb, get_or, set, Option, Some, None}
use Rattle.counter.specs.declared.desk.Desk.{Desk}
use Rattle.counter.specs.declared.desk.Outcome.{Outcome}
use Rattle.counter.specs.declared.desk.Outcome.TheVariants.{Starts, Waits, Lost}

-- the running cause, and the waiting ones beside their number
abbrev pub desk_of : ℕ → List ℕ → ℕ → Desk
desk_of running waiting queued = record { running = running; waiting = waiting; queued = queued }

abbrev pub first : Desk → ℕ
first d = get_or d.waiting 0 0

abbrev pub second : Desk → ℕ
second d = get_or d.waiting 1 0

-- how many wait, by the two places
unfoldable pub queued_of : ℕ → ℕ → ℕ
queued_of first second = cond (eqb first 0) 0 (cond (eqb second 0) 1 2)

abbrev pub empty : Desk
empty = desk_of 0 (0 ∷ 0 ∷ []) 0

-- ---- a cause comes

-- it stands in one of the two places
abbrev pub waits : ℕ → ℕ → ℕ → Bool
waits cause first second = eqb first cause || eqb second cause

abbrev pub starting : ℕ → Desk → Desk
starting cause d = desk_of cause d.waiting d.queued

-- behind those that wait already
abbrev pub waiting : ℕ → Desk → Desk
waiting cause d = desk_of d.running (set d.waiting d.queued cause) (d.queued + 1)

-- the desk after a cause is posted, and what became of the cause
pub record Posted : Type 0 where
  pub desk : Desk
  pub outcome : Outcome

abbrev pub posted : Desk → Outcome → Posted
posted d outcome = record { desk = d; outcome = outcome }

-- it waits already: neither added nor lost; none running: it starts; fewer than two waiting: it waits; else it is lost
unfoldable pub post : ℕ → Desk → Posted
post cause d =
    cond (waits cause (first d) (second d)) (posted d Waits)
    (cond (eqb d.running 0) (posted (starting cause d) Starts)
    (cond (ltb d.queued 2) (posted (waiting cause d) Waits) (posted d Lost)))

-- ---- the routine is done

abbrev pub resting : Desk → Desk
resting d = desk_of 0 d.waiting d.queued

-- the first waiting cause runs, the second moves up
abbrev pub advancing : Desk → Desk
advancing d = desk_of (first d) (second d ∷ 0 ∷ []) (d.queued - 1)

-- what starts when a routine is done
pub data Next : Type 0 where
  Cause : ℕ → Next
  Nothing : Next

-- what code answers
abbrev pub next_of : Option ℕ → Next
next_of (Some cause) = Cause cause
next_of None = Nothing

-- the desk after a routine is done, and what starts
pub record Finished : Type 0 where
  pub desk : Desk
  pub next : Next

abbrev pub finished : Desk → Next → Finished
finished d next = record { desk = d; next = next }

-- the first waiting cause starts, or none runs; no effect if none runs
unfoldable pub finish : Desk → Finished
finish d =
    cond (eqb d.running 0) (finished d Nothing)
    (cond (eqb d.queued 0) (finished (resting d) Nothing) (finished (advancing d) (Cause (first d))))
