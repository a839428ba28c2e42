-- `hsc::stepping::event_verdict` meets its contract: its tests are the definition's, in its order, on the whole buffers.
use Rattle.snapshot.specs.FormedBytes.{formed}
use Rattle.snapshot.specs.EventBytes.{legal_event}
use Rattle.hsc.proofs.Whole.{whole-answer}
use Rattle.hsc.proofs.stepping.event_verdict.Goals as goal

pub returns-then-not-legal_event : goal.returns-then-not-legal_event
returns-then-not-legal_event c = rw (whole-answer legal_event c.args.event.now c.requires.1 c.legal_event.ensures (c.if-not-legal_event.true))

pub returns-then-not-formed : goal.returns-then-not-formed
returns-then-not-formed c =
    rw (
      whole-answer legal_event c.args.event.now c.requires.1 c.legal_event.ensures (c.if-not-legal_event.false),
      whole-answer formed c.args.snapshot.now c.requires.0 c.formed.ensures (c.if-not-formed.true),
    )

pub returns : goal.returns
returns c =
    rw (
      whole-answer legal_event c.args.event.now c.requires.1 c.legal_event.ensures (c.if-not-legal_event.false),
      whole-answer formed c.args.snapshot.now c.requires.0 c.formed.ensures (c.if-not-formed.false),
    )
