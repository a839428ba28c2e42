-- The event area of a valid image: its events, one by one, are the image's.
use mathlib.Core.Path.{◌≡◌}
use mathlib.Core.List.{List}
use Prim.Native.Nat.{ℕ, ◌+◌, ◌*◌, ◌≤◌, ◌<◌}
use native.Mathlib.Omega.{arith}
use lib.ListN.{length}
use Rattle.word.specs.Part.{part}
use Rattle.word.proofs.Part.{length-part, part-part}
use Rattle.snapshot.specs.Widths.{event_size}
use Rattle.image.specs.Header.{header_size, event_count}
use Rattle.image.specs.Rows.{events_in, event_area}
use Rattle.image.specs.Verdicts.{ValidTrace}
use Rattle.image.proofs.Accepted.{Passed, trace-passed}

module _ (image : List ℕ) (v : ValidTrace image) where
  pub area-within : header_size + event_count image * event_size ≤ length image
  area-within =
      let passes : Passed image = trace-passed image v in
      omega (arith, passes.whole, passes.header.offsets.table)

  pub area-length : length (event_area image) ≡ event_count image * event_size
  area-length = length-part image header_size (event_count image * event_size) area-within

  pub area-count : events_in (event_area image) ≡ event_count image
  area-count = omega (arith, area-length)

  pub area-part : (i : ℕ) → i < event_count image
      → part (event_area image) (i * event_size) event_size ≡ part image (header_size + i * event_size) event_size
  area-part i h = part-part image header_size (event_count image * event_size) (i * event_size) event_size area-within (omega arith)
