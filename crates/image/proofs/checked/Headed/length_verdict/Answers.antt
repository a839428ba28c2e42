-- `image::checked::Headed::length_verdict` meets its contract: the table ends where the header's other numbers tell it.
use borrow.Author.Tests.{eq-eqb, ne_eqb}
use mathlib.Core.Path.{◌≡◌, sym, ◌∙◌}
use mathlib.Core.List.{List}
use Prim.Native.Nat.{ℕ, ◌+◌, ◌*◌, ◌/◌}
use native.Mathlib.Nat.{div-le_self}
use native.Mathlib.Omega.{arith}
use Rattle.replay.specs.Image.{snapshot_place}
use Rattle.image.specs.Header.{event_count, spacing_of, snapshot_count, snapshot_offset, shape_of, system_of}
use Rattle.image.specs.Verdicts.{length_verdict}
use Rattle.image.proofs.Headers.{Headed, header-passed}
use Rattle.image.proofs.checked.Headed.length_verdict.Goals as goal

-- where the table ends, by the count and the spacing that were read
ends : (image : List ℕ) → Headed image → {e k : ℕ} → e ≡ event_count image → k ≡ spacing_of image
    → snapshot_place (system_of image) (shape_of image) (e / k + 1) ≡ snapshot_offset image + snapshot_count image * (system_of image).size
ends image h q r = rw (q, r, h.offsets.table, h.offsets.counted) (omega arith)

pub nonzero_div-self : goal.nonzero_div-self
nonzero_div-self c =
    let self = c.args.self.now in
    rw self.spacing_told (header-passed _ self.passes).limits.spaced

pub overflow_add-self : goal.overflow_add-self
overflow_add-self c =
    let self = c.args.self.now in
    omega (arith, (header-passed _ self.passes).limits.few, self.count_told, div-le_self self.count self.spacing)

pub returns-then-self-snapshot_at : goal.returns-then-self-snapshot_at
unfolding length_verdict
returns-then-self-snapshot_at c =
    let self = c.args.self.now in
    let end = c.snapshot_at.ensures ∙ ends _ (header-passed _ self.passes) self.count_told self.spacing_told in
    rw (ne_eqb _ _ (λ e. c.if-self-snapshot_at.true (e ∙ sym end)))

pub returns : goal.returns
unfolding length_verdict
returns c =
    let self = c.args.self.now in
    let end = c.snapshot_at.ensures ∙ ends _ (header-passed _ self.passes) self.count_told self.spacing_told in
    rw (eq-eqb _ _ (c.if-self-snapshot_at.false ∙ end))
