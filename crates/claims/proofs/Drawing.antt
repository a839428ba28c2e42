-- What is claimed of drawing a night (document 02, request 2): each statement whole, proved by naming the law that stands in another crate's
-- `proofs/`. The contract of the call is in `Claims`, with those of the others. What is run is `run`, which replay's definitions use.
use mathlib.Core.Path.{◌≡◌}
use mathlib.Core.Logic.{◌↔◌}
use mathlib.Core.List.{List, [], ◌++◌}
use Prim.Native.Nat.{ℕ, ◌+◌, ◌-◌, ◌*◌, ◌^◌, ◌≤◌, ◌<◌}
use lib.IntN.{ℤ}
use lib.ListN.{length, get_or}
use Rattle.word.specs.Part.{Bytes, part}
use Rattle.counter.specs.Parts.{fresh}
use Rattle.snapshot.specs.Widths.{event_size}
use Rattle.snapshot.specs.Snapshots.{encode}
use Rattle.refusal.specs.Refusals.{Answer, refused_in, given, Placed, told}
use Rattle.refusal.proofs.Answers as refusals
use Rattle.replay.specs.Events.{run}
use Rattle.image.specs.declared.edition.Edition.{Edition}
use Rattle.image.specs.declared.edition.Edition.TheVariants.{Base}
use Rattle.image.specs.Editions.{system, acc_of}
use Rattle.image.specs.Header.{event_count}
use Rattle.image.specs.Rows.{event_area}
use Rattle.image.specs.Verdicts.{ValidTrace}
use Rattle.image_replay.specs.Replays.{final_snapshot}
use Rattle.draw.specs.Drawing.{draw_verdict, draw_snapshot, draw_row}
use Rattle.hsc.specs.Calls.{step_verdict, step_after, steps_after, read_verdict, read_after}
use Rattle.draw.proofs as draw
use Rattle.hsc.proofs as hsc

-- ---- refusals

-- none of 9, 5 and 6 is given exactly where the snapshot is well formed, the events are legal and the row has one number for each
pub draw-accepted : (ed : Edition) (snapshot events : List ℕ) (room : ℕ)
    → (draw_verdict ed snapshot events room ≡ given tt) ↔ draw.Accepted.Drawable ed snapshot events room
draw-accepted = draw.Accepted.draw-accepted

-- a refusal's place fits its half of the status: one that fits is told as it is, one past it as the last that does
pub draw-placed : (ed : Edition) (snapshot events : List ℕ) (room : ℕ) → Placed (draw_verdict ed snapshot events room)
draw-placed = draw.Bounds.draw-placed

pub told-placed : {A : Type 0} (a : Answer A) → Placed a → told a ≡ a
told-placed = refusals.told-placed

pub told-past : {A : Type 0} (number trace place : ℕ) → 2 ^ 32 ≤ place → told {A = A} (refused_in number trace place) ≡ refused_in number trace (2 ^ 32 - 1)
told-past = refusals.told-past

-- ---- what is left, in every edition

module _ (ed : Edition) (snapshot events : List ℕ) (room : ℕ) (v : draw_verdict ed snapshot events room ≡ given tt) where
  -- the snapshot is that of the run's last state
  pub snapshot-left : draw_snapshot ed snapshot events room ≡ (system ed).encode (run (system ed) ((system ed).decode snapshot) events 0 room)
  snapshot-left = draw.Left.snapshot-left ed snapshot events (draw.Accepted.drawn ed snapshot events room v)

  -- the row has the accumulators of the run's states, one for each event, in their order
  module _ (row : List ℤ) (fits : length row ≡ room) where
    pub row-long : length (draw_row ed snapshot events row) ≡ room
    row-long = draw.Left.row-long ed snapshot events (draw.Accepted.drawn ed snapshot events room v) row fits

    pub row-at : (i : ℕ) (d : ℤ) → i < room
        → get_or (draw_row ed snapshot events row) i d ≡ acc_of ed (run (system ed) ((system ed).decode snapshot) events 0 (i + 1))
    row-at = draw.Left.row-at ed snapshot events (draw.Accepted.drawn ed snapshot events room v) row fits

-- ---- some events and then others

-- drawing all is not refused exactly where drawing n and then m is not; the rows are appended, and the snapshot is the same
module _ (ed : Edition) (snapshot a b : List ℕ) (n m : ℕ) (bytes-s : Bytes snapshot) (bytes-a : Bytes a) where
  pub parts-drawn : draw_verdict ed snapshot (a ++ b) (n + m) ≡ given tt → length a ≡ n * event_size
      → (draw_verdict ed snapshot a n ≡ given tt) × (draw_verdict ed (draw_snapshot ed snapshot a n) b m ≡ given tt)
  parts-drawn = draw.Joined.parts-drawn ed snapshot a b n m bytes-s bytes-a

  module _ (v : draw_verdict ed snapshot a n ≡ given tt) (w : draw_verdict ed (draw_snapshot ed snapshot a n) b m ≡ given tt) where
    pub all-drawn : draw_verdict ed snapshot (a ++ b) (n + m) ≡ given tt
    all-drawn = draw.Joined.all-drawn ed snapshot a b n m bytes-s bytes-a v w

    pub joined-snapshot : draw_snapshot ed snapshot (a ++ b) (n + m) ≡ draw_snapshot ed (draw_snapshot ed snapshot a n) b m
    joined-snapshot = draw.Joined.joined-snapshot ed snapshot a b n m bytes-s bytes-a v w

    pub joined-row : (r q : List ℤ) → length r ≡ n → length q ≡ m
        → draw_row ed snapshot (a ++ b) (r ++ q) ≡ draw_row ed snapshot a r ++ draw_row ed (draw_snapshot ed snapshot a n) b q
    joined-row = draw.Joined.joined-row ed snapshot a b n m bytes-s bytes-a v w

-- ---- drawing beside stepping and reading

-- no events: what reading answers, and the snapshot as it was
pub draw-none : (s : List ℕ) → draw_verdict Base s [] 0 ≡ read_verdict s
draw-none = hsc.Drawn.draw-none

pub draw-none-after : (s : List ℕ) → Bytes s → draw_snapshot Base s [] 0 ≡ s
draw-none-after = hsc.Drawn.draw-none-after

-- one event: the step, in its answer and in what it leaves, whatever was lent
pub draw-one : (s e : List ℕ) → draw_verdict Base s e 1 ≡ step_verdict s e
draw-one = hsc.Drawn.draw-one

pub draw-one-after : (s e : List ℕ) → draw_snapshot Base s e 1 ≡ step_after s e
draw-one-after = hsc.Drawn.draw-one-after

-- many: no step is refused, all of them leave the same snapshot, and each number is the ACC that reading shows after so many steps
module _ (s events : List ℕ) (row : List ℤ) (v : draw_verdict Base s events (length row) ≡ given tt) (bytes-s : Bytes s) (bytes-e : Bytes events) where
  pub steps-taken : (i : ℕ) → i < length row → step_verdict (steps_after s events i) (part events (i * event_size) event_size) ≡ given tt
  steps-taken = hsc.Drawn.steps-taken s events row v bytes-s bytes-e

  pub draw-steps : draw_snapshot Base s events (length row) ≡ steps_after s events (length row)
  draw-steps = hsc.Drawn.draw-steps s events row v bytes-s bytes-e

  pub row-shown : (i : ℕ) → i < length row → (fields : List ℤ) (d : ℤ)
      → get_or (draw_row Base s events row) i d ≡ get_or (read_after (steps_after s events (i + 1)) fields) 18 d
  row-shown = hsc.Drawn.row-shown s events row v bytes-s bytes-e

  -- the last one is what reading shows of the snapshot left
  pub last-shown : 0 < length row → (fields : List ℤ) (d : ℤ)
      → get_or (draw_row Base s events row) (length row - 1) d ≡ get_or (read_after (draw_snapshot Base s events (length row)) fields) 18 d
  last-shown = hsc.Drawn.last-shown s events row v bytes-s bytes-e

-- ---- a night

-- drawing all events of a valid image from fresh is not refused, and leaves replay's final snapshot
module _ (image : List ℕ) (bytes : Bytes image) (v : ValidTrace image) where
  pub night-drawn : draw_verdict Base (encode fresh) (event_area image) (event_count image) ≡ given tt
  night-drawn = draw.Night.night-drawn image bytes v

  pub night-left : draw_snapshot Base (encode fresh) (event_area image) (event_count image) ≡ final_snapshot image
  night-left = draw.Night.night-left image bytes v
