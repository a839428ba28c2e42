-- `reader::layout::image_end` meets its contract: the header's numbers are within their limits, so the image's end is small.
use mathlib.Core.Path.{◌≡◌, ap, ◌∙◌}
use mathlib.Core.List.{List}
use Prim.Native.Nat.{ℕ, ◌+◌, ◌*◌, ◌/◌, ◌^◌, ◌≤◌, ◌<◌}
use native.Mathlib.Nat.{div-le_self, mul-le-mul}
use native.Mathlib.Omega.{arith}
use Rattle.snapshot.specs.Widths.{event_size}
use Rattle.image.specs.declared.edition.Edition.{Edition}
use Rattle.image.specs.Editions.{system, max_size}
use Rattle.image.specs.Header.{header_size, max_events}
use Rattle.image.proofs.Headers.{Headed, header-passed}
use Rattle.reader.specs.Formats.{image_end}
use Rattle.reader.specs.Layout.{header_in}
use Rattle.reader.proofs.layout.image_end.Goals as goal

-- an end by three numbers, and that it is small
abbrev ends : ℕ → ℕ → ℕ → ℕ
ends e k size = header_size + e * event_size + (e / k + 1) * size

small : (e k size : ℕ) → e ≤ max_events → size ≤ max_size → ends e k size < 2 ^ 32
small e k size few h =
    let snapshots : e / k + 1 ≤ max_events + 1 = omega (arith, div-le_self e k) in
    omega (arith, mul-le-mul snapshots h)

pub nonzero_div-count : goal.nonzero_div-count
nonzero_div-count c =
    let h : List ℕ =
    header_in c.args.bytes.now in
    let headed : Headed h =
    header-passed h c.requires in
    omega (arith, c.header_number-spacing.ensures.0, headed.limits.spaced)

pub returns : goal.returns
returns c =
    let e : ℕ =
    c.header_number-count.result in
    let k : ℕ =
    c.header_number-spacing.result in
    let h : List ℕ =
    header_in c.args.bytes.now in
    let same : ends e k c.size-size.result ≡ image_end h =
    let size = c.size-size.ensures.0 ∙ ap (λ (ed : Edition). (system ed).size) c.edition_in.ensures in
    λ i. ends (c.header_number-count.ensures.0 i) (c.header_number-spacing.ensures.0 i) (size i) in
    let headed : Headed h =
    header-passed h c.requires in
    let few : e ≤ max_events =
    omega (arith, c.header_number-count.ensures.0, headed.limits.few) in
    let fits : ends e k c.size-size.result < 2 ^ 32 =
    small e k c.size-size.result few c.size-size.ensures.1 in
    (c.snapshot_place.ensures ∙ same, omega (arith, c.snapshot_place.ensures, fits))
