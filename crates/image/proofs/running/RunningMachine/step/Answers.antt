-- `step` of a running counter meets the contract of a machine: any event of 12 bytes keeps a good state good, so the bytes hold the state
-- after it.
use mathlib.Core.Path.{sym, ap, ◌∙◌, subst}
use Rattle.word.specs.Part.{part}
use Rattle.word.proofs.Part.{length-part, bytes-part}
use Rattle.counter.specs.WellFormed.{Good}
use Rattle.snapshot.specs.Widths.{event_size}
use Rattle.snapshot.specs.EventBytes.{step_event}
use Rattle.image.specs.Laws.{event-good}
use Rattle.image.proofs.running.RunningMachine.step.Goals as goal

pub invariant_of-self : goal.invariant_of-self
invariant_of-self c =
    let a = c.args in
    let bytes = bytes-part a.events.now a.at event_size (λ i. (c.type_inv.events i).fits) in
    let good = event-good _ _ c.self.invariant (length-part a.events.now a.at event_size c.requires) bytes in
    subst Good (sym (c.step_over.ensures good)) good

pub returns : goal.returns
returns c =
    let a = c.args in
    let bytes = bytes-part a.events.now a.at event_size (λ i. (c.type_inv.events i).fits) in
    let good = event-good _ _ c.self.invariant (length-part a.events.now a.at event_size c.requires) bytes in
    c.step_over.ensures good ∙ ap (step_event (part a.events.now a.at event_size)) c.self.view_is
