-- `image::checked::Checked::edit_verdict` meets its contract: the verdict on the patch, and then that on the snapshot before its first place,
-- which stands in the table.
use mathlib.Core.Path.{◌≡◌, ap, ap₂, ◌∙◌}
use mathlib.Core.List.{List}
use Prim.Native.Nat.{ℕ, ◌/◌}
use native.Mathlib.Omega.{arith}
use Rattle.std.proofs.Common.{rules}
use Rattle.refusal.specs.Refusals.{Answer, answer_of}
use Rattle.refusal.proofs.Answers.{refused-first, accepted-answer, accepted-then}
use Rattle.replay.proofs.Image.{first-within}
use Rattle.image.specs.declared.edition.Edition.{Edition}
use Rattle.image.specs.Editions.{system}
use Rattle.image.specs.Header.{event_count, edition_of, system_of, shape_of}
use Rattle.image.specs.Verdicts.{patch_verdict, start_verdict, edit_verdict}
use Rattle.image.proofs.Accepted.{image-passed}
use Rattle.image.proofs.Mendable.{patch-passed}
use Rattle.image.proofs.checked.Checked.edit_verdict.Goals as goal

-- what was answered by the edition and the count that were read is the verdict by the header's
read : (image : List ℕ) (f : ℕ) (patch : List ℕ) {ed : Edition} {e : ℕ} {a : Answer Unit} → a ≡ patch_verdict (system ed) e f patch → ed ≡ edition_of image
    → e ≡ event_count image → a ≡ patch_verdict (system_of image) (event_count image) f patch
read image f patch answered edition count = answered ∙ ap₂ (λ (ed : Edition) (e : ℕ). patch_verdict (system ed) e f patch) edition count

pub nonzero_div-first : goal.nonzero_div-first
nonzero_div-first c =
    let checked = c.args.self.now in
    rw checked.headed.spacing_told (image-passed _ checked.passes).header.limits.spaced

pub start_verdict-requires : goal.start_verdict-requires
start_verdict-requires c =
    let a = c.args in
    let checked = a.self.now in
    let image = checked.headed.image.now in
    let answer = read image a.first a.patch.now c.patch_verdict.ensures checked.headed.edition_told checked.headed.count_told in
    let fits = patch-passed _ _ _ _ (accepted-answer _ _ answer c.in_ok-patch_verdict.was) in
    let inside = first-within (shape_of image) a.first (image-passed _ checked.passes).header.limits.spaced (omega (arith, fits.within)) in
    rw checked.headed.spacing_told (omega (arith, inside))

pub returns-in_err-patch_verdict : goal.returns-in_err-patch_verdict
unfolding edit_verdict
returns-in_err-patch_verdict c =
    let a = c.args in
    let checked = a.self.now in
    let answer = read checked.headed.image.now a.first a.patch.now c.patch_verdict.ensures checked.headed.edition_told checked.headed.count_told in
    let same : answer_of c.from_residual.result ≡ answer_of c.patch_verdict.result = search rules in
    same ∙ refused-first _ _ answer _ c.in_err-patch_verdict.was _

pub returns : goal.returns
unfolding edit_verdict
returns c =
    let a = c.args in
    let checked = a.self.now in
    let image = checked.headed.image.now in
    let answer = read image a.first a.patch.now c.patch_verdict.ensures checked.headed.edition_told checked.headed.count_told in
    accepted-then _ _ answer c.in_ok-patch_verdict.was
    (c.start_verdict.ensures ∙ ap (λ (k : ℕ). start_verdict image (a.first / k)) checked.headed.spacing_told)
