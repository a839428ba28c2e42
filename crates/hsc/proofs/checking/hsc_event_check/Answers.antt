-- `hsc::checking::hsc_event_check` meets its contract: its tests are the definition's, and the part of 12 bytes is the whole event.
use borrow.Author.Tests.{eq-eqb, ne_eqb}
use Rattle.snapshot.specs.EventBytes.{legal_event}
use Rattle.hsc.specs.Calls.{check_answer}
use Rattle.hsc.proofs.Whole.{whole-answer}
use Rattle.hsc.proofs.checking.hsc_event_check.Goals as goal

pub returns-then-event-ne-EVENT_SIZE : goal.returns-then-event-ne-EVENT_SIZE
unfolding check_answer
returns-then-event-ne-EVENT_SIZE c = rw (ne_eqb _ _ c.if-event-ne-EVENT_SIZE.true) c.number.ensures

pub returns-then-legal_event : goal.returns-then-legal_event
unfolding check_answer
returns-then-legal_event c =
    let event = c.args.event.now in
    rw (eq-eqb _ _ c.if-event-ne-EVENT_SIZE.false, whole-answer legal_event event c.if-event-ne-EVENT_SIZE.false c.legal_event.ensures c.if-legal_event.true)

pub returns-else-legal_event : goal.returns-else-legal_event
unfolding check_answer
returns-else-legal_event c =
    let event = c.args.event.now in
    rw (eq-eqb _ _ c.if-event-ne-EVENT_SIZE.false, whole-answer legal_event event c.if-event-ne-EVENT_SIZE.false c.legal_event.ensures c.if-legal_event.false)
