-- `hsc::comparing::hsc_compare` meets its contract: a refusal's status is its number, trace and place, and the count fits 32 bits.
use mathlib.Core.Path.{sym, ap, subst, ◌∙◌}
use native.Mathlib.Omega.{arith}
use Rattle.refusal.specs.Refusals.{answer_of, Placed}
use Rattle.compare.proofs.Bounds.{compare-placed, compare-few}
use Rattle.hsc.proofs.comparing.hsc_compare.Goals as goal

pub status_of-requires : goal.status_of-requires
status_of-requires c =
    subst Placed (sym c.compare.ensures.answer ∙ ap answer_of c.in-Err.is) (compare-placed _ _ _)

pub overflow_cast-count : goal.overflow_cast-count
overflow_cast-count c = omega (arith, compare-few _ _ _ (sym c.compare.ensures.answer ∙ ap answer_of c.in-Ok.is))
