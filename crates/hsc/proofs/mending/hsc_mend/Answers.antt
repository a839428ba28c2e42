-- `hsc::mending::hsc_mend` meets its contract: a refusal's status is its number and place, and a mend's three numbers fit 32 bits.
use mathlib.Core.Path.{sym, ap, subst, ◌∙◌}
use native.Mathlib.Omega.{arith}
use Rattle.refusal.specs.Refusals.{answer_of, Placed}
use Rattle.image_mend.proofs.Bounds.{mend-placed, mend-numbers}
use Rattle.hsc.proofs.mending.hsc_mend.Goals as goal

pub status_of-requires : goal.status_of-requires
status_of-requires c = subst Placed (sym c.mend.ensures.answer ∙ ap answer_of c.in-Err.is) (mend-placed _ _ _)

pub overflow_cast-span : goal.overflow_cast-span
overflow_cast-span c = omega (arith, mend-numbers _ _ _ (sym (ap answer_of c.in-Ok.is) ∙ c.mend.ensures.answer))

pub overflow_cast-span-in-Ok : goal.overflow_cast-span-in-Ok
overflow_cast-span-in-Ok c = omega (arith, mend-numbers _ _ _ (sym (ap answer_of c.in-Ok.is) ∙ c.mend.ensures.answer))

pub overflow_cast-span-in-Ok-2 : goal.overflow_cast-span-in-Ok-2
overflow_cast-span-in-Ok-2 c = omega (arith, mend-numbers _ _ _ (sym (ap answer_of c.in-Ok.is) ∙ c.mend.ensures.answer))
