-- `image::checked::Headed::events_verdict` meets its contract: what the scan found is the verdict, and the events lie in the image.
use mathlib.Core.Path.{ap₂, ◌∙◌}
use Prim.Native.Nat.{ℕ}
use native.Mathlib.Omega.{arith}
use Rattle.image.specs.declared.edition.Edition.{Edition}
use Rattle.image.specs.Editions.{system}
use Rattle.image.specs.Header.{header_size}
use Rattle.image.specs.Verdicts.{events_verdict}
use Rattle.image.proofs.Headers.{header-passed}
use Rattle.image.proofs.Accepted.{length-passed, found, not-found}
use Rattle.image.proofs.checked.Headed.events_verdict.Goals as goal

pub first_illegal-i-requires : goal.first_illegal-i-requires
first_illegal-i-requires c =
    let self = c.args.self.now in
    omega (arith, self.count_told, (header-passed _ self.passes).offsets.table, length-passed _ c.requires)

pub returns-then-i-self : goal.returns-then-i-self
returns-then-i-self c =
    let self = c.args.self.now in
    let image = self.image.now in
    found (system self.edition) image header_size 5 _ _ c.first_illegal-i.ensures c.if-i-self.true
    ∙ ap₂ (λ (ed : Edition) (n : ℕ). events_verdict (system ed) 5 image header_size n) self.edition_told self.count_told

pub returns : goal.returns
returns c =
    let self = c.args.self.now in
    let image = self.image.now in
    not-found (system self.edition) image header_size 5 _ _ c.first_illegal-i.ensures c.if-i-self.false
    ∙ ap₂ (λ (ed : Edition) (n : ℕ). events_verdict (system ed) 5 image header_size n) self.edition_told self.count_told
