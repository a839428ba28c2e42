-- `hsc::stepping::hsc_step` meets its contract: what is not refused has both lengths right, and every refusal is at place 0.
use mathlib.Core.Path.{sym, subst, ◌∙◌}
use Rattle.refusal.specs.Refusals.{Placed}
use Rattle.hsc.proofs.Done.{ok-passed, step-passed, step-placed}
use Rattle.hsc.proofs.stepping.hsc_step.Goals as goal

pub status_of-requires : goal.status_of-requires
status_of-requires c = subst Placed (sym c.step_verdict-verdict.ensures) (step-placed _ _)

pub step_over-requires : goal.step_over-requires
step_over-requires c =
    let s = step-passed _ _ (ok-passed _ c.step_verdict-verdict.ensures (sym c.is_ok.ensures.value ∙ c.if-is_ok.true)) in
    record { snapshot_formed = (s.snapshot, s.formed); event_whole = s.event }
