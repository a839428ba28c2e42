-- The reader after the header and i legal events: it has counted i of them, and its state is that of the run.
use mathlib.Core.Path.{◌≡◌, ap, ◌∙◌}
use mathlib.Core.Bool.{Bool, true, cond}
use mathlib.Core.List.{List, []}
use Prim.Native.Nat.{ℕ, zero, suc, ◌+◌, ◌*◌, ◌<◌, ◌≤◌}
use native.Mathlib.Nat.{zero-mul, suc-mul}
use native.Mathlib.Omega.{arith}
use lib.ListN.{length, take}
use lib.Seq.{length-take-le}
use Rattle.word.specs.Part.{part}
use Rattle.word.proofs.Part.{length-part}
use Rattle.refusal.specs.Refusals.{Answer, given}
use Rattle.replay.specs.System.{System}
use Rattle.replay.specs.Events.{run}
use Rattle.replay.proofs.Scan.{legal_at}
use Rattle.pieces.specs.Reading.{Reader, pushes}
use Rattle.pieces.specs.Traces.{Format, Phase, heading, counting, broken, count, counted, begun, need, finish, traces, fresh}
use Rattle.pieces.proofs.Folds.{pushes-append, piece-acts}
use Rattle.pieces.proofs.Places.{take-split}
use Rattle.pieces.proofs.Feeds.{bare, counted-more}

module _ {width : ℕ} (F : Format width) where
  -- the byte at which event i begins
  abbrev pub place : ℕ → ℕ
  place i = F.size + i * width

  -- the state after i events
  abbrev pub state_after : (h : F.Head) → List ℕ → (i : ℕ) → (F.system h).State
  state_after h bytes i = run (F.system h) (F.start h) bytes F.size i

module _ {width : ℕ} (F : Format width) (some : 0 < F.size) (wide : 0 < width) (h : F.Head) (bytes : List ℕ)
    (opening : F.opens (take F.size bytes) ≡ given h) where
  abbrev S : System width
  S = F.system h

  abbrev at : ℕ → S.State
  at = state_after F h bytes

  -- one event more, legal or not
  pub event-pushed : (i : ℕ) → i < count F h → place F (suc i) ≤ length bytes
      → pushes (traces F) (bare F (counted F h i (at i))) (part bytes (place F i) width)
      ≡ bare F (cond (legal_at S bytes F.size i) (counted F h (suc i) (at (suc i))) (broken 5 i))
  unfolding run need finish
  event-pushed i l room =
      let e : List ℕ = part bytes (place F i) width in
      let long : length e ≡ width = length-part bytes (place F i) width (omega (arith, suc-mul i width)) in
      ap (λ (p : Phase F). pushes (traces F) (bare F p) e) (counted-more F h i (at i) l)
      ∙ piece-acts (traces F) (counting h i (at i)) e [] (omega arith) (omega arith)

  pub pushed : (i : ℕ) → i ≤ count F h → place F i ≤ length bytes → ((k : ℕ) → k < i → legal_at S bytes F.size k ≡ true)
      → pushes (traces F) (fresh F) (take (place F i) bytes) ≡ bare F (counted F h i (at i))
  unfolding run need finish begun
  pushed zero l room legal =
      let first : place F 0 ≡ F.size = omega (arith, zero-mul width) in
      let long : length (take F.size bytes) ≡ F.size = length-take-le F.size bytes (omega arith) in
      ap (λ (n : ℕ). pushes (traces F) (fresh F) (take n bytes)) first
      ∙ piece-acts (traces F) heading (take F.size bytes) [] (omega arith) (omega arith)
      ∙ ap (λ (a : Answer F.Head). bare F (begun F a)) opening
  pushed (suc i) l room legal =
      let e : List ℕ = part bytes (place F i) width in
      let next : place F (suc i) ≡ place F i + width = omega (arith, suc-mul i width) in
      ap (λ (n : ℕ). pushes (traces F) (fresh F) (take n bytes)) next
      ∙ ap (pushes (traces F) (fresh F)) (take-split bytes (place F i) width)
      ∙ pushes-append (traces F) (fresh F) (take (place F i) bytes) e
      ∙ ap (λ (r : Reader (traces F)). pushes (traces F) r e) (pushed i (omega arith) (omega arith) (λ k b. legal k (omega arith)))
      ∙ event-pushed i l room
      ∙ ap (λ (t : Bool). bare F (cond t (counted F h (suc i) (at (suc i))) (broken 5 i))) (legal i (omega arith))
