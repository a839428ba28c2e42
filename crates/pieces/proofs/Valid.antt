-- For an image that replay takes: what is handed out up to each event's place, all that is handed out, and what the end answers.
use mathlib.Core.Path.{◌≡◌, refl, sym, ap, ap₂, ◌∙◌}
use mathlib.Core.Bool.{Bool, true, false, cond, ◌&&◌}
use mathlib.Core.List.{List, [], ◌∷◌, ◌++◌, append-nil}
use Prim.Native.Nat.{ℕ, zero, suc, ◌+◌, ◌*◌, ◌/◌, ◌%◌, ◌<◌, ◌≤◌}
use borrow.Author.Tests.{eqb-true, eqb-false, eq-eqb}
use native.Mathlib.Nat.{zero-mul, suc-mul, zero-div, div-add-mod', mul-le-mul_right, le-div_iff_mul-le}
use native.Mathlib.Omega.{arith}
use lib.Dec.{eqb, ltb}
use lib.ListN.{length, take, drop, length-drop}
use lib.Seq.{length-take-le}
use Rattle.word.specs.Part.{part}
use Rattle.word.proofs.Part.{length-part}
use Rattle.refusal.specs.Refusals.{Answer, refused, given, ◌and_then◌}
use Rattle.replay.specs.System.{System, Laws}
use Rattle.replay.specs.Image.{Shape, snapshots, event, snapshot}
use Rattle.replay.specs.Events.{run}
use Rattle.replay.specs.Replay.{start_of, Replayable, replayed_image}
use Rattle.replay.proofs.Scan.{legal_at}
use Rattle.replay.proofs.Start.{start-good}
use Rattle.replay.proofs.Replay.{snapshot-replayed}
use Rattle.pieces.specs.Reading.{Reader, Fed, pushes, handed, feed}
use Rattle.pieces.specs.Traces.{Format, Phase, heading, counting, passing, broken, count, tail, counted, begun, accepted, need, finish, hands, shown}
use Rattle.pieces.specs.Traces.{traces, fresh}
use Rattle.pieces.specs.Claim.{firsts, Fits, answer}
use Rattle.pieces.proofs.Folds.{handed-append, handed-split, piece-hands}
use Rattle.pieces.proofs.Places.{take-split, next-multiple, same-multiple}
use Rattle.pieces.proofs.Feeds.{bare, counted-more, counted-all, passing-feeds}
use Rattle.pieces.proofs.Receiving.{feed-told}
use Rattle.pieces.proofs.Pushed.{place, state_after, pushed}
use Rattle.pieces.proofs.Answers.{answered, passing-answers}
use Rattle.pieces.proofs.Outcome.{answer-from}

module _ {width : ℕ} (F : Format width) (h : F.Head) where
  -- what a phase with this state shows
  pub shown-counted : (i : ℕ) (s : (F.system h).State) → shown F (counted F h i s) ≡ (F.system h).encode s
  unfolding counted shown
  shown-counted i s = go (ltb i (count F h))
    where
      go : (t : Bool) → shown F (cond t (counting h i s) (passing h s (tail F h))) ≡ (F.system h).encode s
      go true = refl
      go false = refl

  -- the snapshots' bytes hand out nothing
  passing-hands : (s : (F.system h).State) (n : ℕ) (bs : List ℕ) → length bs ≤ n → handed (traces F) (bare F (passing h s n)) bs ≡ []
  passing-hands s n bs l =
      let none : (feed (traces F) (bare F (passing h s n)) bs).holds ≡ false =
      ap (λ (o : Fed (Reader (traces F))). o.holds) (passing-feeds F h s n bs l) in
      rw none at (feed-told (traces F) (bare F (passing h s n)) bs).out

module _ {width : ℕ} (F : Format width) (some : 0 < F.size) (wide : 0 < width) (h : F.Head) (image : List ℕ) (fits : Fits F h image)
    (L : Laws (F.system h)) (r : Replayable (F.system h) (F.shape h) image) where
  abbrev S : System width
  S = F.system h

  abbrev g : Shape
  g = F.shape h

  abbrev at : ℕ → S.State
  at = state_after F h image

  -- the replayed image
  abbrev goal : List ℕ
  goal = replayed_image S g image

  -- ---- the image's bytes

  room : (i : ℕ) → i ≤ count F h → place F i ≤ length image
  room i l = omega (arith, fits.header, r.valid.whole, mul-le-mul_right width l)

  legal : (k : ℕ) → k < count F h → legal_at S image F.size k ≡ true
  unfolding event
  legal k l = rw fits.header at (r.valid.legal k l).legal

  same-state : (i : ℕ) → at i ≡ run S (start_of S g image) image g.header i
  same-state i = ap₂ (λ (s : S.State) (p : ℕ). run S s image p i) fits.start (sym fits.header)

  reader-at : (i : ℕ) → i ≤ count F h → pushes (traces F) (fresh F) (take (place F i) image) ≡ bare F (counted F h i (at i))
  reader-at i l = pushed F some wide h image fits.opening i l (room i l) (λ k b. legal k (omega arith))

  -- ---- what is handed out

  -- the state after jK events is that of snapshot j
  snapshot-shows : (i j : ℕ) → i ≡ j * g.spacing → j < snapshots g → S.encode (at i) ≡ snapshot S g goal j
  snapshot-shows i j e l =
      ap S.encode (same-state i ∙ ap (run S (start_of S g image) image g.header) e)
      ∙ sym (snapshot-replayed S L g (start_of S g image) image (start-good S g L image r) r.valid l)

  event-hands : (i : ℕ) → i < count F h → (t : Bool) → eqb (suc i % g.spacing) 0 ≡ t
      → firsts S g goal (suc (i / g.spacing)) ++ cond t (S.encode (at (suc i)) ∷ []) [] ≡ firsts S g goal (suc (suc i / g.spacing))
  unfolding firsts
  event-hands i l true e =
      let none_left : suc i % g.spacing ≡ 0 = eqb-true (suc i % g.spacing) 0 e in
      let next : suc i / g.spacing ≡ suc (i / g.spacing) = next-multiple g.spacing i r.valid.spaced none_left in
      let multiple : suc i ≡ suc i / g.spacing * g.spacing = omega (arith, div-add-mod' (suc i) g.spacing) in
      let inside : suc i / g.spacing ≤ g.count / g.spacing = (le-div_iff_mul-le r.valid.spaced).1 (omega arith) in
      ap₂ (λ (m : ℕ) (x : List ℕ). firsts S g goal m ++ (x ∷ [])) (sym next) (snapshot-shows (suc i) (suc i / g.spacing) multiple (omega arith))
  event-hands i l false e =
      append-nil (firsts S g goal (suc (i / g.spacing)))
      ∙ ap (λ (m : ℕ). firsts S g goal (suc m)) (sym (same-multiple g.spacing i r.valid.spaced (eqb-false (suc i % g.spacing) 0 e)))

  handed-up-to : (i : ℕ) → i ≤ count F h → handed (traces F) (fresh F) (take (place F i) image) ≡ firsts S g goal (suc (i / g.spacing))
  unfolding run need finish hands begun accepted firsts
  handed-up-to zero l =
      let first : place F 0 ≡ F.size = omega (arith, zero-mul width) in
      let long : length (take F.size image) ≡ F.size = length-take-le F.size image (omega (arith, room 0 l)) in
      ap (λ (n : ℕ). handed (traces F) (fresh F) (take n image)) first
      ∙ piece-hands (traces F) heading (take F.size image) [] (omega arith) (omega arith)
      ∙ ap (λ (a : Answer F.Head). cond (accepted F a) (shown F (begun F a) ∷ []) []) fits.opening
      ∙ ap (λ (x : List ℕ). x ∷ []) (shown-counted F h 0 (F.start h) ∙ snapshot-shows 0 0 (sym (zero-mul g.spacing)) (omega arith))
      ∙ ap (λ (m : ℕ). firsts S g goal (suc m)) (sym (zero-div g.spacing))
  handed-up-to (suc i) l =
      let e : List ℕ = part image (place F i) width in
      let next : place F (suc i) ≡ place F i + width = omega (arith, suc-mul i width) in
      let long : length e ≡ width = length-part image (place F i) width (omega (arith, room (suc i) l)) in
      ap (λ (n : ℕ). handed (traces F) (fresh F) (take n image)) next
      ∙ ap (handed (traces F) (fresh F)) (take-split image (place F i) width)
      ∙ handed-append (traces F) (fresh F) (take (place F i) image) e
      ∙ ap₂ ◌++◌ (handed-up-to i (omega arith))
      (ap (λ (q : Reader (traces F)). handed (traces F) q e) (reader-at i (omega arith) ∙ ap (bare F) (counted-more F h i (at i) l))
      ∙ piece-hands (traces F) (counting h i (at i)) e [] (omega arith) (omega arith)
      ∙ ap (λ (t : Bool). cond (t && eqb (suc i % g.spacing) 0) (shown F (cond t (counted F h (suc i) (S.step (at i) e)) (broken 5 i)) ∷ []) []) (legal i l)
      ∙ ap (λ (x : List ℕ). cond (eqb (suc i % g.spacing) 0) (x ∷ []) []) (shown-counted F h (suc i) (S.step (at i) e)))
      ∙ event-hands i l (eqb (suc i % g.spacing) 0) refl

  -- ---- the whole image

  abbrev rest : List ℕ
  rest = drop (place F (count F h)) image

  rest-long : length rest ≡ tail F h
  rest-long = simp length-drop (omega (arith, fits.header, r.valid.whole))

  -- the snapshots of the replayed image, all of them
  pub handed-all : handed (traces F) (fresh F) image ≡ firsts S g goal (snapshots g)
  handed-all =
      let all : suc (count F h / g.spacing) ≡ snapshots g = omega arith in
      let last : Phase F = counted F h (count F h) (at (count F h)) in
      handed-split (traces F) (fresh F) (place F (count F h)) image
      ∙ ap₂ ◌++◌ (handed-up-to (count F h) (omega arith))
      (ap (λ (q : Reader (traces F)). handed (traces F) q rest)
      (reader-at (count F h) (omega arith) ∙ ap (bare F) (counted-all F h (count F h) (at (count F h)) (omega arith)))
      ∙ passing-hands F h (at (count F h)) (tail F h) rest (omega (arith, rest-long)))
      ∙ append-nil (firsts S g goal (suc (count F h / g.spacing)))
      ∙ ap (firsts S g goal) all

  -- the final state's snapshot
  pub answer-final : answer F (pushes (traces F) (fresh F) image).phase
      ≡ given (S.encode (run S (start_of S g image) image F.size g.count))
  answer-final =
      answer-from F some wide h image fits.opening (count F h) (omega arith) (room (count F h) (omega arith)) legal
      ∙ ap (λ (p : Phase F). answered F p rest) (counted-all F h (count F h) (at (count F h)) (omega arith))
      ∙ passing-answers F h (at (count F h)) (tail F h) rest
      ∙ ap (λ (t : Bool). cond t (given tt) (refused 4 0) and_then given (S.encode (at (count F h)))) (eq-eqb (length rest) (tail F h) rest-long)
      ∙ ap (λ (s : S.State). given (S.encode (run S s image F.size (count F h)))) fits.start
