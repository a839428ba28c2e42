-- `hsc::replaying::hsc_replay` meets its contract: the status is that of replay's verdict, whose place fits its half.
use mathlib.Core.Path.{sym, subst}
use Rattle.refusal.specs.Refusals.{Placed}
use Rattle.image.proofs.Bounds.{replay-placed}
use Rattle.hsc.proofs.replaying.hsc_replay.Goals as goal

pub status_of-requires : goal.status_of-requires
status_of-requires c = subst Placed (sym c.replay.ensures.answer) (replay-placed _)
