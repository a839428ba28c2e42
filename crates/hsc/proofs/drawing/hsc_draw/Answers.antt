-- `hsc::drawing::hsc_draw` meets its contract: the status is that of drawing's verdict, whose place fits its half.
use mathlib.Core.Path.{sym, subst}
use Rattle.refusal.specs.Refusals.{Placed}
use Rattle.draw.proofs.Bounds.{draw-placed}
use Rattle.hsc.proofs.drawing.hsc_draw.Goals as goal

pub status_of-requires : goal.status_of-requires
status_of-requires c = subst Placed (sym c.draw.ensures.answer) (draw-placed _ _ _ _)
