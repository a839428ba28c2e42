-- What is claimed of comparing two traces (document 02, request 1): each statement whole, proved by naming the law that stands in another
-- crate's `proofs/`. The contracts of the two calls are in `Claims`, with those of the others.
use mathlib.Core.Path.{◌≡◌, refl}
use mathlib.Core.Logic.{◌↔◌}
use mathlib.Core.List.{List}
use Prim.Native.Nat.{ℕ, ◌+◌, ◌≤◌, ◌<◌, max}
use denote.Ref.{Bor}
use lib.ListN.{length, take, drop}
use Rattle.word.specs.Part.{Bytes, part}
use Rattle.refusal.specs.Refusals.{refused_in, given, Placed}
use Rattle.replay.specs.System.{System, Alike, Laws}
use Rattle.replay.specs.Image.{Shape, snapshot_place, event}
use Rattle.replay.specs.Events.{run}
use Rattle.replay.specs.Replay as any
use Rattle.image.specs.Header.{header_size, max_events, snapshot_offset}
use Rattle.image.specs.Rows.{event_area}
use Rattle.image.specs.Verdicts.{ValidTrace}
use Rattle.image_replay.specs.Replays.{replay_image, replay_last}
use Rattle.compare.specs.Places.{differences, ◌∈◌, Rising, DiffersAt, SameButStamps}
use Rattle.compare.specs.Comparing.{traces_verdict, compare_answer, compare_row}
use Rattle.compare.specs.Rest.{choose, past, rest_trace, rest_place, rest_of}
use Rattle.replay.proofs as replay
use Rattle.compare.proofs as compare

-- ---- the list

-- place i is listed exactly if it is below both lengths and the events there differ in kind, sub or value
pub listed-exactly : (first second : List ℕ) (i : ℕ) → (i ∈ differences first second) ↔ DiffersAt first second i
listed-exactly = compare.Exact.listed-exactly

-- the list rises, and no other rising list holds exactly those places
pub differences-rising : (first second : List ℕ) → Rising (differences first second)
differences-rising = compare.Exact.differences-rising

pub differences-only : (first second l : List ℕ) → Rising l → ((i : ℕ) → (i ∈ l) ↔ DiffersAt first second i) → l ≡ differences first second
differences-only = compare.Unique.differences-only

-- ---- refusals

-- neither 9 nor 5 is given exactly where each trace is a row of events, not too long, and each of its events is legal
pub traces-accepted : (first second : List ℕ) → (traces_verdict first second ≡ given tt) ↔ (compare.Fit.Fit first × compare.Fit.Fit second)
traces-accepted = compare.Fit.traces-accepted

-- a refusal's place fits its half of the status, and the count is at most the events' limit
pub compare-placed : (first second : List ℕ) (room : ℕ) → Placed (compare_answer first second room)
compare-placed = compare.Bounds.compare-placed

pub compare-few : (first second : List ℕ) (room : ℕ) {n : ℕ} → compare_answer first second room ≡ given n → n ≤ max_events
compare-few = compare.Bounds.compare-few

-- ---- which trace is which, and stamps

-- a trace that is not refused differs nowhere from itself
pub compare-self : (trace : List ℕ) (room : ℕ) → compare.Fit.Fit trace → compare_answer trace trace room ≡ given 0
compare-self = compare.Symmetry.compare-self

-- with the traces exchanged the answer is the same, but for what a 5 says of a trace: which it is, and the place there
pub compare-symmetric : (a b : List ℕ) (room : ℕ)
    → compare.Symmetry.unnamed (compare_answer a b room) ≡ compare.Symmetry.unnamed (compare_answer b a room)
compare-symmetric = compare.Symmetry.compare-symmetric

-- and a 5 that names the second trace then names it as the first, at the same place
pub compare-exchanged : (a b : List ℕ) (room place : ℕ) → compare_answer a b room ≡ refused_in 5 2 place → compare_answer b a room ≡ refused_in 5 1 place
compare-exchanged = compare.Symmetry.compare-exchanged

-- with other stamps on either side, answer and row are the same
pub compare-stamps : (a b c d : List ℕ) → SameButStamps a b → SameButStamps c d → (room : ℕ) → compare_answer a c room ≡ compare_answer b d room
compare-stamps = compare.Stamps.compare-stamps

pub row-stamps : (a b c d : List ℕ) → SameButStamps a b → SameButStamps c d → (row : List ℕ) → compare_row a c row ≡ compare_row b d row
row-stamps = compare.Stamps.row-stamps

-- ---- two nights

-- comparing refuses the event area of a valid image neither by 9 nor by 5
pub area-fit : (image : List ℕ) → ValidTrace image → compare.Fit.Fit (event_area image)
area-fit = compare.Nights.area-fit

-- two valid images of one header whose event areas differ nowhere replay to the same table, byte for byte, and to the same final state
module _ (a b : List ℕ) (same : take header_size a ≡ take header_size b) (bytes-a : Bytes a) (bytes-b : Bytes b) (v : ValidTrace a) (w : ValidTrace b)
    (room : ℕ) (none : compare_answer (event_area a) (event_area b) room ≡ given 0) where
  pub same-table : drop (snapshot_offset a) (replay_image a) ≡ drop (snapshot_offset a) (replay_image b)
  same-table = compare.Nights.same-table a b same bytes-a bytes-b v w room none

  pub same-last : (last : List ℕ) → replay_last a last ≡ replay_last b last
  same-last = compare.Nights.same-last a b same bytes-a bytes-b v w room none

-- over any system: two images from one start, whose events every state takes alike
module _ {width : ℕ} (S : System width) (L : Laws S) (g : Shape) (a b : List ℕ) (r : any.Replayable S g a) (q : any.Replayable S g b)
    (start : any.start_of S g a ≡ any.start_of S g b) (alike : (k : ℕ) → k < g.count → Alike S (event S g a k) (event S g b k)) where
  pub alike-table : drop (snapshot_place S g 0) (any.replayed_image S g a) ≡ drop (snapshot_place S g 0) (any.replayed_image S g b)
  alike-table = replay.Theorem.alike-table S L g a b r q start alike

  pub alike-final : run S (any.start_of S g a) a g.header g.count ≡ run S (any.start_of S g b) b g.header g.count
  alike-final = replay.Theorem.alike-final S L g a b r q start alike

-- ---- the rest of the longer trace

-- `rest` returns it as a part of that trace: these bytes, and the place in memory that is the trace's own, so many bytes on
pub rest-met : {M : Type 1} → compare.rest.rest.Statement.statement M
rest-met = compare.rest.rest.Met.met

pub rest-contract : (κs : _) (first first' second second' r : Bor (List ℕ)) → (compare.rest.rest.Reads.Asked κs (first, (second, tt)) ≡ Unit)
    × (compare.rest.rest.Reads.Learnt κs (first, (second, tt)) r (first', (second', tt))
    ≡ ((r.now ≡ rest_of first.now second.now)
    × (r.ref_ptr ≡ past (choose (rest_trace first.now second.now) first.ref_ptr second.ref_ptr) (rest_place first.now second.now))))
rest-contract κs first first' second second' r = (refl, refl)

-- the numbers that C is given are that part's: so many bytes of that trace from that place on, up to its end
pub rest-part : (first second : List ℕ)
    → part (choose (rest_trace first second) first second) (rest_place first second) (length (rest_of first second)) ≡ rest_of first second
rest-part = compare.Remaining.rest-part

pub rest-ends : (first second : List ℕ) → rest_place first second + length (rest_of first second) ≡ max (length first) (length second)
rest-ends = compare.Remaining.rest-ends
