-- What a whole list of bytes comes to in crate `pieces` is the first fault of the image's own verdicts in byte order; a trace without
-- one is valid. The header that the reader has is the image's front, which has its numbers.
use mathlib.Core.Path.{◌≡◌, refl, sym, ap, ap₂, ◌∙◌}
use mathlib.Core.Bool.{Bool, true, false, cond, not}
use mathlib.Core.List.{List}
use Prim.Native.Nat.{ℕ, ◌+◌, ◌-◌, ◌*◌, ◌/◌, ◌≤◌, ◌<◌, min}
use native.Mathlib.Nat.{le_refl}
use native.Mathlib.Decide.{dec_lt}
use native.Mathlib.Omega.{arith}
use borrow.Author.Tests.{lt-ltb, le-ltb}
use lib.Dec.{eqb, ltb}
use lib.ListN.{length, take}
use lib.Seq.{length-take-le, take-take}
use Rattle.refusal.specs.Refusals.{Answer, refused_in, refused, given, ◌and_then◌}
use Rattle.refusal.proofs.Answers.{refused-given, pass, both-passed}
use Rattle.replay.specs.Image.{Shape, snapshots, snapshot_place, snapshot}
use Rattle.replay.specs.Events.{first_illegal}
use Rattle.pieces.specs.Outcome.{events_fault, length_fault, final, opened_outcome, outcome}
use Rattle.snapshot.specs.Widths.{event_size}
use Rattle.image.specs.declared.edition.Edition.{Edition}
use Rattle.image.specs.declared.edition.Edition.TheVariants.{Base}
use Rattle.image.specs.Editions.{system}
use Rattle.image.specs.Header.{header_size, event_count, snapshot_count, snapshot_offset, shape_of, edition_of, system_of}
use Rattle.image.specs.Header.{header_verdict}
use Rattle.image.specs.Verdicts.{length_verdict, events_verdict, image_verdict, starts_verdict, replay_verdict, ValidTrace}
use Rattle.image.proofs.Headers.{Headed, header-passed, number-same, shape-same, edition-same}
use Rattle.image.proofs.Accepted.{length-passed}
use Rattle.reader.specs.Formats.{format}
use Rattle.receive.specs.Receivers.{whole_events, first_fault}
use Rattle.reader.proofs.Heads.{header-fault}

-- ---- checks in a row

then-then : {A : Type 0} (a b : Answer Unit) (x : Answer A) → ((a and_then b) and_then x) ≡ (a and_then b and_then x)
then-then (refused_in n t p) b x = refl
then-then (given y) b x = refl

-- the same answer was refused alike
pub same-checks : {A : Type 0} (a b : Answer Unit) (x y : A) → (a and_then given x) ≡ (b and_then given y) → a ≡ b
same-checks (refused_in n t p) (refused_in m u q) x y e = cc
same-checks (refused_in n t p) (given z) x y e = absurd (refused-given e)
same-checks (given z) (refused_in m u q) x y e = absurd (refused-given (sym e))
same-checks (given z) (given w) x y e = refl

-- a test either way round
flipped : (t : Bool) (n p : ℕ) → ◌≡◌ {A = Answer Unit} (cond t (given tt) (refused n p)) (cond (not t) (refused n p) (given tt))
flipped true n p = refl
flipped false n p = refl

-- ---- each edition

-- replay starts from any snapshot 0, and from the same state
starts-all : (ed : Edition) (b : List ℕ) → (system ed).starts b ≡ true
starts-all Base b = refl

pub start-same : (ed : Edition) (a b : List ℕ) → (system ed).start a ≡ (system ed).start b
start-same Base a b = refl

-- ---- the image's front

module _ (image : List ℕ) where
  abbrev pub front : List ℕ
  front = take header_size image

  same-front : take header_size image ≡ take header_size front
  same-front = sym (take-take header_size header_size image (le_refl header_size))

  pub shape-front : shape_of front ≡ shape_of image
  shape-front = shape-same image front same-front

  pub edition-front : edition_of front ≡ edition_of image
  edition-front = edition-same image front same-front

  count-front : event_count front ≡ event_count image
  count-front = number-same image front same-front 0 (omega arith)

  module _ (long : header_size ≤ length image) where
    pub length-front : length front ≡ header_size
    length-front = length-take-le header_size image long

    pub verdict-front : header_verdict front ≡ header_verdict image
    unfolding header_verdict
    verdict-front =
        rw (
          length-front,
          le-ltb (length image) header_size long,
          number-same image front same-front 0 (omega arith),
          number-same image front same-front 4 (omega arith),
          number-same image front same-front 8 (omega arith),
          number-same image front same-front 12 (omega arith),
          number-same image front same-front 16 (omega arith),
          number-same image front same-front 20 (omega arith),
        )

  -- ---- each verdict

  abbrev came : ℕ → ℕ
  came count = min count ((length image - header_size) / event_size)

  events-same : events_fault format front image ≡ events_verdict (system_of image) 5 image header_size (whole_events image)
  unfolding events_fault events_verdict
  events-same =
      ap₂
      (λ (ed : Edition) (n : ℕ).
      cond (ltb (first_illegal (system ed) image header_size 0 (came n)) (came n)) (refused 5 (first_illegal (system ed) image header_size 0 (came n))) (given tt))
      edition-front count-front

  -- the image's length by its shape and by its header
  length-same : Headed image → length_fault format front image ≡ length_verdict image
  unfolding length_fault length_verdict
  length-same head =
      let shaped : ℕ = snapshot_place (system_of image) (shape_of image) (snapshots (shape_of image)) in
      let told : ℕ = snapshot_offset image + snapshot_count image * (system_of image).size in
      let same : shaped ≡ told = sym (rw (head.offsets.table, head.offsets.counted) (omega arith)) in
      ap₂
      (λ (ed : Edition) (g : Shape). cond (eqb (length image) (snapshot_place (system ed) g (snapshots g))) (given tt) (refused 4 0))
      edition-front shape-front
      ∙ ap (λ (n : ℕ). cond (eqb (length image) n) (given tt) (refused 4 0)) same
      ∙ flipped (eqb (length image) told) 4 0

  -- ---- the whole

  abbrev ends : Answer (List ℕ)
  ends = first_fault image and_then given (final format front image)

  opened-first : header_size ≤ length image → (v : Answer Unit) → header_verdict front ≡ v → opened_outcome format (v and_then given front) image ≡ ends
  unfolding opened_outcome first_fault
  opened-first long (refused_in n t p) e =
      let alone : t ≡ 0 = (header-fault front n t p (length-front long) e).alone in
      rw (sym (verdict-front long) ∙ e, alone)
  opened-first long (given x) e =
      let passes : header_verdict image ≡ given tt = sym (verdict-front long) ∙ e in
      let events : Answer Unit = events_verdict (system_of image) 5 image header_size (whole_events image) in
      ap₂ (λ (a b : Answer Unit). a and_then b and_then given (final format front image)) events-same (length-same (header-passed image passes))
      ∙ sym (then-then events (length_verdict image) (given (final format front image)))
      ∙ rw passes

  too-short : length image < header_size → header_verdict image ≡ refused 1 0
  unfolding header_verdict
  too-short l = rw (lt-ltb (length image) header_size l)

  pub outcome-first : outcome format image ≡ ends
  unfolding outcome first_fault
  outcome-first = go (dec_lt (length image) header_size)
    where
      go : Dec (length image < header_size) → outcome format image ≡ ends
      go (yes l) = rw (lt-ltb (length image) header_size l, too-short l)
      go (no l) =
          rw (le-ltb (length image) header_size (omega arith)) (opened-first (omega arith) (header_verdict front) refl)

  -- ---- a trace without a fault

  starts-passed : starts_verdict image ≡ given tt
  unfolding starts_verdict
  starts-passed =
      let b : List ℕ = snapshot (system_of image) (shape_of image) image 0 in
      pass (not ((system_of image).starts b)) 6 0 (given tt) (ap not (starts-all (edition_of image) b)) refl

  pub first-valid : first_fault image ≡ given tt → ValidTrace image
  unfolding first_fault replay_verdict image_verdict
  first-valid e =
      let events : Answer Unit = events_verdict (system_of image) 5 image header_size (whole_events image) in
      let one : (header_verdict image ≡ given tt) × ((events and_then length_verdict image) ≡ given tt) =
      both-passed (header_verdict image) (events and_then length_verdict image) e in
      let two : (events ≡ given tt) × (length_verdict image ≡ given tt) = both-passed events (length_verdict image) one.1 in
      let head : Headed image = header-passed image one.0 in
      let all : whole_events image ≡ event_count image = omega (arith, length-passed image two.1, head.offsets.table) in
      let legal : events_verdict (system_of image) 5 image header_size (event_count image) ≡ given tt =
      ap (events_verdict (system_of image) 5 image header_size) (sym all) ∙ two.0 in
      rw (one.0, two.1, legal, starts-passed)
