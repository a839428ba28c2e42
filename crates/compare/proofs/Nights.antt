-- Two valid images of one header whose event areas differ nowhere replay to the same table, byte for byte, and to the same final state.
use mathlib.Core.Path.{◌≡◌, refl, sym, ap, ap₂, subst, ◌∙◌}
use mathlib.Core.List.{List}
use Prim.Native.Nat.{ℕ, ◌*◌, ◌<◌}
use native.Mathlib.Nat.{zero-mul}
use native.Mathlib.Omega.{arith}
use lib.ListN.{take, drop}
use Rattle.word.specs.Part.{Bytes}
use Rattle.snapshot.specs.Widths.{event_size}
use Rattle.snapshot.specs.EventBytes.{event_of, legal_event}
use Rattle.refusal.specs.Refusals.{given}
use Rattle.replay.specs.System.{System, Alike}
use Rattle.replay.specs.Image.{Shape, event, snapshot, snapshot_place}
use Rattle.replay.specs.Events.{run}
use Rattle.replay.specs.Replay as replay
use Rattle.replay.proofs.Theorem.{alike-table, alike-final}
use Rattle.image.specs.declared.edition.Edition.{Edition}
use Rattle.image.specs.declared.edition.Edition.TheVariants.{Base}
use Rattle.image.specs.Editions.{system}
use Rattle.image.specs.Header.{header_size, event_count, snapshot_offset, shape_of, edition_of, system_of}
use Rattle.image.specs.Rows.{event_area}
use Rattle.image.specs.Verdicts.{ValidTrace}
use Rattle.image.proofs.Laws.{laws, taken-alike}
use Rattle.image.proofs.Headers.{shape-same, edition-same}
use Rattle.image.proofs.Accepted.{trace-passed, trace-replayable}
use Rattle.image.proofs.Rows.{area-length, area-count, area-part}
use Rattle.image_replay.specs.Replays.{final_snapshot, replay_image, replay_last}
use Rattle.image_replay.proofs.Theorem.{replayed-same, replay-image}
use Rattle.compare.specs.Places.{event_at, differences}
use Rattle.compare.specs.Comparing.{compare_answer}
use Rattle.compare.proofs.Differing.{empty}
use Rattle.compare.proofs.Unique.{none-differs}
use Rattle.compare.proofs.Fit.{Fit}
use Rattle.compare.proofs.Bounds.{compare-given}

-- ---- each edition

-- the start does not go by the bytes of snapshot 0
one-start : (ed : Edition) (b c : List ℕ) → (system ed).start b ≡ (system ed).start c
one-start Base b c = refl

legal-alike : (ed : Edition) (e : List ℕ) → (system ed).legal e ≡ legal_event e
legal-alike Base e = refl

-- ---- the event area of a valid image

module _ (image : List ℕ) (v : ValidTrace image) where
  -- comparing refuses no such area by 9 or 5
  pub area-fit : Fit (event_area image)
  area-fit =
      record {
        whole = area-length image v ∙ ap (λ (n : ℕ). n * event_size) (sym (area-count image v));
        few = rw (area-count image v) (trace-passed image v).header.limits.few;
        legal = λ i h.
            let inside : i < event_count image = rw (← area-count image v) h in
            ap legal_event (area-part image v i inside) ∙ sym (legal-alike (edition_of image) _) ∙ (trace-passed image v).legal i inside;
      }

-- ---- two nights

module _ (a b : List ℕ) (same : take header_size a ≡ take header_size b) (bytes-a : Bytes a) (bytes-b : Bytes b) (v : ValidTrace a) (w : ValidTrace b)
    (room : ℕ) (none : compare_answer (event_area a) (event_area b) room ≡ given 0) where
  abbrev S : System event_size
  S = system_of a

  abbrev g : Shape
  g = shape_of a

  taken : replay.Replayable S g a
  taken = trace-replayable a bytes-a v

  -- the second in the format of the first
  taken-too : replay.Replayable S g b
  taken-too =
      subst (λ (ed : Edition). replay.Replayable (system ed) g b) (edition-same a b same)
      (subst (λ (h : Shape). replay.Replayable (system_of b) h b) (shape-same a b same) (trace-replayable b bytes-b w))

  count-same : event_count b ≡ event_count a
  count-same = ap (λ (h : Shape). h.count) (shape-same a b same)

  same-event : (k : ℕ) → k < event_count a → event_at (event_area a) k ≡ event_at (event_area b) k
  same-event k h =
      none-differs (event_area a) (event_area b) (empty (differences (event_area a) (event_area b)) (compare-given (event_area a) (event_area b) room none).1) k
      (omega (arith, area-count a v)) (omega (arith, area-count b w, count-same))

  alike : (k : ℕ) → k < g.count → Alike S (event S g a k) (event S g b k)
  unfolding event
  alike k h =
      taken-alike (edition_of a) _ _
      (ap event_of (sym (area-part a v k h)) ∙ same-event k h ∙ ap event_of (area-part b w k (omega (arith, count-same))))

  start-same : replay.start_of S g a ≡ replay.start_of S g b
  start-same = one-start (edition_of a) (snapshot S g a 0) (snapshot S g b 0)

  place : snapshot_offset a ≡ snapshot_place S g 0
  place = (trace-passed a v).header.offsets.table ∙ omega (arith, zero-mul S.size)

  -- the call leaves the same table
  pub same-table : drop (snapshot_offset a) (replay_image a) ≡ drop (snapshot_offset a) (replay_image b)
  same-table =
      ap₂ drop place (replay-image a bytes-a v)
      ∙ alike-table S (laws (edition_of a)) g a b taken taken-too start-same alike
      ∙ sym (ap₂ drop place (replay-image b bytes-b w ∙ replayed-same a b same))

  final-same : final_snapshot b ≡ S.encode (run S (replay.start_of S g b) b header_size g.count)
  final-same = λ i.
      let T : System event_size = system (edition-same a b same i) in
      let h : Shape = shape-same a b same i in
      T.encode (run T (replay.start_of T h b) b header_size h.count)

  pub same-final : final_snapshot a ≡ final_snapshot b
  same-final = ap S.encode (alike-final S (laws (edition_of a)) g a b taken taken-too start-same alike) ∙ sym final-same

  -- and the same final state
  pub same-last : (last : List ℕ) → replay_last a last ≡ replay_last b last
  same-last last = rw (v, w, same-final)
