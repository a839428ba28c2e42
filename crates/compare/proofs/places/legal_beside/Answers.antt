-- `compare::places::legal_beside` meets its contract: an event with the bytes of a legal one is legal, and any other is looked at.
use mathlib.Core.Path.{sym, ◌∙◌}
use Rattle.compare.proofs.Events.{legal-at}
use Rattle.compare.proofs.Fit.{inside-both}
use Rattle.compare.proofs.places.legal_beside.Goals as goal

pub returns-then-same_front : goal.returns-then-same_front
returns-then-same_front c =
    let both =
    inside-both _ _ _ c.requires.0 (λ j. (c.type_inv.first j).fits) (λ j. (c.type_inv.second j).fits) in
    sym (legal-at _ _ _ both.0 both.1 c.requires.1 (sym c.same_front.ensures ∙ c.if-same_front.true))
