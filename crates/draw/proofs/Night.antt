-- Drawing all events of a valid image, from the snapshot that its replay starts from, leaves replay's final snapshot.
use mathlib.Core.Path.{◌≡◌, ap, ◌∙◌}
use mathlib.Core.List.{List}
use Prim.Native.Nat.{ℕ, ◌+◌, ◌*◌, ◌<◌}
use native.Mathlib.Omega.{arith}
use Rattle.word.specs.Part.{Bytes, part}
use Rattle.refusal.specs.Refusals.{given}
use Rattle.replay.specs.System.{System, Laws}
use Rattle.replay.specs.Events.{run}
use Rattle.replay.specs.Replay as replay
use Rattle.replay.proofs.Run.{run-read}
use Rattle.replay.proofs.Start.{start-good}
use Rattle.snapshot.specs.Widths.{event_size}
use Rattle.image.specs.Header.{header_size, event_count, shape_of, edition_of, system_of}
use Rattle.image.specs.Rows.{event_area}
use Rattle.image.specs.Verdicts.{ValidTrace}
use Rattle.image.proofs.Laws.{laws}
use Rattle.image.proofs.Accepted.{trace-passed, trace-replayable}
use Rattle.image.proofs.Rows.{area-length, area-part}
use Rattle.image_replay.specs.Replays.{final_snapshot}
use Rattle.draw.specs.Drawing.{draw_verdict, draw_snapshot}
use Rattle.draw.proofs.Accepted.{Drawable, drawable}
use Rattle.draw.proofs.Left.{snapshot-left}

module _ (image : List ℕ) (bytes : Bytes image) (v : ValidTrace image) where
  abbrev S : System event_size
  S = system_of image

  L : Laws S
  L = laws (edition_of image)

  -- the state that replay starts from, and its snapshot
  abbrev start : S.State
  start = replay.start_of S (shape_of image) image

  abbrev first : List ℕ
  first = S.encode start

  good : S.Good start
  good = start-good S (shape_of image) L image (trace-replayable image bytes v)

  in-area : (k : ℕ) → k < event_count image → part (event_area image) (0 + k * event_size) event_size ≡ part image (header_size + k * event_size) event_size
  in-area k h =
      let place : 0 + k * event_size ≡ k * event_size = omega arith in
      ap (λ (p : ℕ). part (event_area image) p event_size) place ∙ area-part image v k h

  can : Drawable (edition_of image) first (event_area image) (event_count image)
  can =
      record {
        sized = (L.sized-encode start good).whole;
        whole = area-length image v;
        legal = λ k h. ap S.legal (in-area k h) ∙ (trace-passed image v).legal k h;
        formed = L.formed-encode start good;
      }

  pub night-drawn : draw_verdict (edition_of image) first (event_area image) (event_count image) ≡ given tt
  night-drawn = drawable (edition_of image) first (event_area image) (event_count image) can

  pub night-left : draw_snapshot (edition_of image) first (event_area image) (event_count image) ≡ final_snapshot image
  night-left =
      snapshot-left (edition_of image) first (event_area image) can
      ∙ ap S.encode
      (ap (λ (s : S.State). run S s (event_area image) 0 (event_count image)) (L.decode-encode start good)
      ∙ run-read S start (event_area image) image 0 header_size (event_count image) in-area)
