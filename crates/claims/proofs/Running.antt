-- What is claimed of how much mending ran (document 02, request 8): each statement whole, proved by naming the law that stands in another
-- crate's `proofs/`. That `mend` promises this of its answer, beside demand 3, is `mend-contract` in `Claims`.
use mathlib.Core.Path.{◌≡◌}
use mathlib.Core.Bool.{true, false}
use mathlib.Core.List.{List, []}
use Prim.Native.Nat.{ℕ, suc, ◌+◌, ◌-◌, ◌*◌, ◌/◌, ◌≤◌, ◌<◌, min}
use Rattle.word.specs.Part.{Bytes, part}
use Rattle.refusal.specs.Refusals.{given}
use Rattle.replay.specs.System.{System, Alike, Laws}
use Rattle.replay.specs.Image.{Shape, snapshots, first_snapshot, event, with_snapshot, Fitting}
use Rattle.replay.specs.Replay as any
use Rattle.replay.specs.Mend.{outcome, settled, mend_on, mend}
use Rattle.replay.specs.EventsRun.{events_run, taken_on, taken}
use Rattle.image.specs.Header.{snapshot_count, spacing_of}
use Rattle.image_mend.specs.declared.Span.{Span}
use Rattle.image_mend.specs.Mends.{mend_answer}
use Rattle.image_mend.specs.Ran.{Ran}
use Rattle.replay.proofs as replay
use Rattle.image_mend.proofs as mending

-- ---- of an image, where mending is not refused

module _ (image : List ℕ) (f : ℕ) (patch : List ℕ) (s : Span) (answered : mend_answer image f patch ≡ given s) where
  -- the number is the smaller of the stop and S - 1, less s, times K
  pub mend-reports : s.ran ≡ (min s.stop (snapshot_count image - 1) - f / spacing_of image) * spacing_of image
  mend-reports = mending.Ran.mend-reports image f patch s answered

  -- It is how many events mending takes by its definition; never more than E, the table true or not; and less than n plus twice K where the
  -- table is true and the patch holds the events that stand there already, in kind, sub and value.
  pub mend-ran : Bytes image → Bytes patch → Ran image f patch s.ran
  mend-ran bytes legal = mending.Ran.mend-ran image f patch bytes legal s answered

-- ---- over any system

-- the events that mending takes are counted as it goes: none at the table's end, K where it stops, and K more where it goes on
module _ {width : ℕ} (S : System width) (g : Shape) (end j : ℕ) (s : S.State) (image : List ℕ) where
  pub taken-end : (mend_on S g end 0 j s image ≡ outcome image (suc j)) × (taken_on S g end 0 j s image ≡ 0)
  taken-end = replay.EventsRun.taken-end S g end j s image

  module _ (n : ℕ) (next : S.State) (reached : next ≡ any.following S g s image j) where
    pub taken-stop : settled S g end image (suc j) next ≡ true
        → (mend_on S g end (suc n) j s image ≡ outcome image (suc j)) × (taken_on S g end (suc n) j s image ≡ g.spacing)
    taken-stop = replay.EventsRun.taken-stop S g end j s image n next reached

    pub taken-more : settled S g end image (suc j) next ≡ false → let written = with_snapshot S g image (suc j) (S.encode next) in
        (mend_on S g end (suc n) j s image ≡ mend_on S g end n (suc j) next written)
        × (taken_on S g end (suc n) j s image ≡ g.spacing + taken_on S g end n (suc j) next written)
    taken-more = replay.EventsRun.taken-more S g end j s image n next reached

-- they are those that are reported, for every table
pub taken-events : {width : ℕ} (S : System width) (g : Shape) (f n : ℕ) (patch image : List ℕ) → 0 < g.spacing → f ≤ g.count
    → taken S g f n patch image ≡ events_run g f (mend S g f n patch image).stop
taken-events = replay.EventsRun.taken-events

-- never more than E, whatever the stop
pub events-most : (g : Shape) (f stop : ℕ) → events_run g f stop ≤ g.count
events-most = replay.EventsRun.events-most

-- E is reached by every mend from a place before the end where K = E, whatever the table holds
pub most-reached : {width : ℕ} (S : System width) (g : Shape) (f n : ℕ) (patch image : List ℕ) → g.spacing ≡ g.count → f < g.count
    → events_run g f (mend S g f n patch image).stop ≡ g.count
most-reached = replay.EventsRun.most-reached

module _ {width : ℕ} (S : System width) (L : Laws S) (g : Shape) (image : List ℕ) (r : any.Replayable S g image) (t : any.TrueTable S g image)
    (f : ℕ) where
  -- where every state takes the patch's events as those that stand there already
  module _ (n : ℕ) (patch : List ℕ) (fits : Fitting S g f n patch)
      (alike : (i : ℕ) → i < n → Alike S (event S g image (f + i)) (part patch (i * width) width)) where
    -- mending stops at the first snapshot past the run, if there is one
    pub alike-stop : (j : ℕ) → first_snapshot g f < j → j < snapshots g → f + n ≤ j * g.spacing → (mend S g f n patch image).stop ≤ j
    alike-stop = replay.Theorem.alike-stop S L g image r t f n patch fits alike

    -- so it runs less than n plus twice K events
    pub alike-few : events_run g f (mend S g f n patch image).stop < n + 2 * g.spacing
    alike-few = replay.EventsRun.alike-few S L g image r t f n patch fits alike

  -- and one less than that is reached, by every empty run before the end where K = 1
  pub few-reached : g.spacing ≡ 1 → f < g.count → suc (events_run g f (mend S g f 0 [] image).stop) ≡ 0 + 2 * g.spacing
  few-reached = replay.EventsRun.few-reached S L g image r t f
