-- `draw::check::legal_verdict` meets its contract: what the scan found is told by its place, the last that fits if it is past that.
use mathlib.Core.Path.{ap, ◌∙◌}
use Prim.Native.Nat.{ℕ}
use Rattle.refusal.specs.Refusals.{refused, told}
use Rattle.image.specs.Editions.{system}
use Rattle.image.proofs.Accepted.{found, not-found}
use Rattle.draw.specs.Drawing.{legal_verdict}
use Rattle.draw.proofs.check.legal_verdict.Goals as goal

pub returns-then-i-count : goal.returns-then-i-count
unfolding legal_verdict
returns-then-i-count c =
    let a = c.args in
    ap (λ (p : ℕ). refused {A = Unit} 5 p) c.told_place.ensures
    ∙ ap told (found (system a.ed) a.events.now 0 5 _ _ c.first_illegal-i.ensures c.if-i-count.true)

pub returns : goal.returns
unfolding legal_verdict
returns c =
    let a = c.args in
    ap told (not-found (system a.ed) a.events.now 0 5 _ _ c.first_illegal-i.ensures c.if-i-count.false)
