-- For every list of bytes the end answers the first fault in byte order, or the final state's snapshot. The events that came whole are
-- taken up to the first illegal one; what is left of the bytes is an event that did not come whole, or what follows the events.
use mathlib.Core.Path.{◌≡◌, refl, ap, ap₂, ◌∙◌}
use mathlib.Core.Bool.{Bool, true, false, cond}
use mathlib.Core.List.{List, []}
use Prim.Native.Nat.{ℕ, suc, ◌+◌, ◌-◌, ◌*◌, ◌/◌, ◌<◌, ◌≤◌}
use borrow.Author.Tests.{lt-ltb, le-ltb, ltb-false, eq-eqb, ne_eqb, eqb-true}
use native.Mathlib.Nat.{suc-mul, mul-le-mul_right, div-mul-le_self, lt-div-mul-add, le-div_iff_mul-le}
use native.Mathlib.Decide.{dec_lt}
use native.Mathlib.Omega.{arith}
use lib.Dec.{eqb, ltb}
use lib.ListN.{length, take, drop, length-drop}
use lib.Seq.{length-take-le}
use Rattle.word.specs.Part.{part}
use Rattle.word.proofs.Branches.{agree}
use Rattle.refusal.specs.Refusals.{Answer, refused_in, refused, given, ◌and_then◌}
use Rattle.refusal.proofs.Answers.{refused-given, passed, both-passed}
use Rattle.replay.specs.System.{System}
use Rattle.replay.specs.Image.{snapshots, snapshot_place}
use Rattle.replay.proofs.Image.{mul-below}
use Rattle.replay.proofs.Scan.{legal_at, scan-legal, scan-illegal}
use Rattle.pieces.specs.Reading.{Reader, pushes}
use Rattle.pieces.specs.Traces.{Format, Phase, heading, broken, count, tail, counted, begun, need, finish, traces}
use Rattle.pieces.specs.Traces.{fresh, verdict, ended}
use Rattle.pieces.specs.Outcome.{whole_events, illegal, events_fault, length_fault, final, opened_outcome, outcome}
use Rattle.pieces.specs.Claim.{answer}
use Rattle.pieces.proofs.Folds.{pushes-append, pushes-split, part-waits, piece-acts}
use Rattle.pieces.proofs.Places.{drop-split}
use Rattle.pieces.proofs.Feeds.{bare, counted-more, counted-all}
use Rattle.pieces.proofs.Answers.{answered, broken-answers, passing-answers, counting-answers}
use Rattle.pieces.proofs.Pushed.{place, state_after, event-pushed, pushed}

-- ---- a header that tells h

module _ {width : ℕ} (F : Format width) (some : 0 < F.size) (wide : 0 < width) (h : F.Head) (bytes : List ℕ)
    (opening : F.opens (take F.size bytes) ≡ given h) where
  abbrev S : System width
  S = F.system h

  abbrev at : ℕ → S.State
  at = state_after F h bytes

  -- the end's answer, from event i on
  pub answer-from : (i : ℕ) → i ≤ count F h → place F i ≤ length bytes → ((k : ℕ) → k < i → legal_at S bytes F.size k ≡ true)
      → answer F (pushes (traces F) (fresh F) bytes).phase ≡ answered F (counted F h i (at i)) (drop (place F i) bytes)
  answer-from i l room legal =
      ap (λ (r : Reader (traces F)). answer F r.phase)
      (pushes-split (traces F) (fresh F) (place F i) bytes
      ∙ ap (λ (r : Reader (traces F)). pushes (traces F) r (drop (place F i) bytes)) (pushed F some wide h bytes opening i l room legal))

  -- an illegal event
  illegal-answers : (i : ℕ) → i < count F h → place F (suc i) ≤ length bytes → legal_at S bytes F.size i ≡ false
      → answered F (counted F h i (at i)) (drop (place F i) bytes) ≡ refused 5 i
  illegal-answers i l room e =
      let rest : List ℕ = drop (place F i + width) bytes in
      ap (λ (r : Reader (traces F)). answer F r.phase)
      (ap (pushes (traces F) (bare F (counted F h i (at i)))) (drop-split bytes (place F i) width)
      ∙ pushes-append (traces F) (bare F (counted F h i (at i))) (part bytes (place F i) width) rest
      ∙ ap (λ (r : Reader (traces F)). pushes (traces F) r rest)
      (event-pushed F some wide h bytes opening i l room ∙ ap (λ (t : Bool). bare F (cond t (counted F h (suc i) (at (suc i))) (broken 5 i))) e))
      ∙ broken-answers F 5 i rest

  module _ (header : (F.shape h).header ≡ F.size) (long : F.size ≤ length bytes) where
    abbrev whole : ℕ
    whole = whole_events F h bytes

    abbrev found : ℕ
    found = illegal F h bytes

    abbrev end : ℕ
    end = snapshot_place S (F.shape h) (snapshots (F.shape h))

    -- the events that came whole
    whole-within : place F whole ≤ length bytes
    whole-within =
        let fits : whole * width ≤ (length bytes - F.size) / width * width = mul-le-mul_right width (omega arith) in
        omega (arith, div-mul-le_self (length bytes - F.size) width)

    -- if not all events came whole, what is left is no whole event
    whole-last : whole < count F h → length bytes < place F whole + width
    whole-last l =
        let all : whole ≡ (length bytes - F.size) / width = omega arith in
        let fits : whole * width ≡ (length bytes - F.size) / width * width = ap (λ (n : ℕ). n * width) all in
        omega (arith, lt-div-mul-add {a = length bytes - F.size} wide)

    -- where those that came whole are legal: an event that did not, or what follows the events
    legal-answers : Dec (whole < count F h)
        → answered F (counted F h whole (at whole)) (drop (place F whole) bytes) ≡ (length_fault F h bytes and_then given (final F h bytes))
    unfolding length_fault final
    legal-answers (yes b) =
        let none : eqb (length bytes) end ≡ false =
        ne_eqb (length bytes) end (λ e. omega (arith, whole-last b, mul-below width b)) in
        ap (λ (p : Phase F). answered F p (drop (place F whole) bytes)) (counted-more F h whole (at whole) b)
        ∙ counting-answers F h whole (at whole) (drop (place F whole) bytes) (simp length-drop (omega (arith, whole-last b)))
        ∙ rw none
    legal-answers (no b) =
        let all : whole ≡ count F h = omega arith in
        let place-all : place F whole ≡ place F (count F h) = ap (place F) all in
        let same : eqb (length (drop (place F whole) bytes)) (tail F h) ≡ eqb (length bytes) end =
        agree
        (eqb (length (drop (place F whole) bytes)) (tail F h))
        (eqb (length bytes) end)
        (λ e. eq-eqb (length bytes) end (omega (arith, eqb-true, length-drop (place F whole) bytes, whole-within)))
        (λ e. eq-eqb (length (drop (place F whole) bytes)) (tail F h) (omega (arith, eqb-true, length-drop (place F whole) bytes, whole-within))) in
        ap (λ (p : Phase F). answered F p (drop (place F whole) bytes)) (counted-all F h whole (at whole) (omega arith))
        ∙ passing-answers F h (at whole) (tail F h) (drop (place F whole) bytes)
        ∙ ap₂ (λ (t : Bool) (n : ℕ). cond t (given tt) (refused 4 0) and_then given (S.encode (at n))) same all

    -- the first illegal one, or else the length
    events-answer : Dec (found < whole) → answer F (pushes (traces F) (fresh F) bytes).phase ≡ opened_outcome F (given h) bytes
    unfolding opened_outcome events_fault
    events-answer (yes l) =
        let room : place F (suc found) ≤ length bytes = omega (arith, mul-below width l, suc-mul found width, whole-within) in
        answer-from found (omega arith) (omega (arith, suc-mul found width)) (λ k b. scan-legal S bytes F.size 0 whole k (omega arith) b)
        ∙ illegal-answers found (omega arith) room (scan-illegal S bytes F.size 0 whole (omega arith))
        ∙ rw (lt-ltb found whole l)
    events-answer (no l) =
        answer-from whole (omega arith) whole-within (λ k b. scan-legal S bytes F.size 0 whole k (omega arith) (omega arith))
        ∙ legal-answers (dec_lt whole (count F h))
        ∙ rw (le-ltb found whole (omega arith))

-- ---- any bytes

module _ {width : ℕ} (F : Format width) (some : 0 < F.size) (wide : 0 < width) (header : (h : F.Head) → (F.shape h).header ≡ F.size)
    (bytes : List ℕ) where
  opened-answer : F.size ≤ length bytes → (a : Answer F.Head) → F.opens (take F.size bytes) ≡ a
      → answer F (pushes (traces F) (fresh F) bytes).phase ≡ opened_outcome F a bytes
  unfolding need finish begun opened_outcome
  opened-answer long (refused_in n t p) e =
      let whole : length (take F.size bytes) ≡ F.size = length-take-le F.size bytes long in
      ap (λ (r : Reader (traces F)). answer F r.phase)
      (pushes-split (traces F) (fresh F) F.size bytes
      ∙ ap (λ (r : Reader (traces F)). pushes (traces F) r (drop F.size bytes))
      (piece-acts (traces F) heading (take F.size bytes) [] (omega arith) (omega arith) ∙ ap (λ (a : Answer F.Head). bare F (begun F a)) e))
      ∙ broken-answers F n p (drop F.size bytes)
  opened-answer long (given h) e =
      events-answer F some wide h bytes e (header h) long (dec_lt (illegal F h bytes) (whole_events F h bytes))

  pub answer-outcome : answer F (pushes (traces F) (fresh F) bytes).phase ≡ outcome F bytes
  unfolding outcome need verdict ended
  answer-outcome = go (dec_lt (length bytes) F.size)
    where
      go : Dec (length bytes < F.size) → answer F (pushes (traces F) (fresh F) bytes).phase ≡ outcome F bytes
      go (yes l) =
          ap (λ (r : Reader (traces F)). answer F r.phase) (part-waits (traces F) heading bytes [] (omega arith)) ∙ rw (lt-ltb (length bytes) F.size l)
      go (no l) =
          opened-answer (omega arith) (F.opens (take F.size bytes)) refl ∙ rw (le-ltb (length bytes) F.size (omega arith))

-- ---- bytes that are refused nothing

-- the header tells h, the length is right and each event is legal
pub record Accepted {width : ℕ} (F : Format width) (bytes : List ℕ) : Type 0 where
  pub head : F.Head
  pub long : F.size ≤ length bytes
  pub opening : F.opens (take F.size bytes) ≡ given head
  pub whole : length bytes ≡ snapshot_place (F.system head) (F.shape head) (snapshots (F.shape head))
  pub legal : (i : ℕ) → i < count F head → legal_at (F.system head) bytes F.size i ≡ true

kept : (t : Bool) (n p : ℕ) → ◌≡◌ {A = Answer Unit} (cond t (given tt) (refused n p)) (given tt) → t ≡ true
kept true n p e = refl
kept false n p e = absurd (refused-given e)

module _ {width : ℕ} (F : Format width) (wide : 0 < width) (header : (h : F.Head) → (F.shape h).header ≡ F.size) (bytes x : List ℕ) where
  opened-given : F.size ≤ length bytes → (a : Answer F.Head) → F.opens (take F.size bytes) ≡ a → opened_outcome F a bytes ≡ given x
      → Accepted F bytes
  unfolding opened_outcome events_fault length_fault
  opened-given long (refused_in n t p) e q = absurd (refused-given q)
  opened-given long (given h) e q =
      let whole : ℕ = whole_events F h bytes in
      let end : ℕ = snapshot_place (F.system h) (F.shape h) (snapshots (F.shape h)) in
      let events : (events_fault F h bytes ≡ given tt) × ((length_fault F h bytes and_then given (final F h bytes)) ≡ given x) =
      both-passed (events_fault F h bytes) (length_fault F h bytes and_then given (final F h bytes)) q in
      let none : whole ≤ illegal F h bytes =
      ltb-false (illegal F h bytes) whole (passed (ltb (illegal F h bytes) whole) 5 (illegal F h bytes) (given tt) events.0).0 in
      let right : length bytes ≡ end =
      eqb-true (length bytes) end (kept (eqb (length bytes) end) 4 0 (both-passed (length_fault F h bytes) (given (final F h bytes)) events.1).0) in
      let all : count F h ≤ (length bytes - F.size) / width = (le-div_iff_mul-le wide).1 (omega (arith, header h)) in
      record {
        head = h;
        long = long;
        opening = e;
        whole = right;
        legal = λ i l. scan-legal (F.system h) bytes F.size 0 whole i (omega arith) (omega arith);
      }

  pub outcome-given : outcome F bytes ≡ given x → Accepted F bytes
  unfolding outcome
  outcome-given e =
      let header : (ltb (length bytes) F.size ≡ false) × (opened_outcome F (F.opens (take F.size bytes)) bytes ≡ given x) =
      passed (ltb (length bytes) F.size) 1 0 (opened_outcome F (F.opens (take F.size bytes)) bytes) e in
      opened-given (ltb-false (length bytes) F.size header.0) (F.opens (take F.size bytes)) refl header.1
