-- `snapshot::event::legal_event` meets its contract: the tests are the definition's, of the event that was read; a sample passes the second.
use mathlib.Core.Bool.{and-true}
use mir.Syntax.{w32}
use mir.Val.{SFits}
use Rattle.word.specs.Part.{part}
use Rattle.word.proofs.TwosComplement.{signed-unsigned}
use Rattle.counter.proofs.ByKind.{legal-sample}
use Rattle.snapshot.specs.Widths.{event_size}
use Rattle.snapshot.specs.EventBytes.{event_of, legal_event}
use Rattle.snapshot.specs.declared.event.Event.{Event}
use Rattle.snapshot.proofs.Sampled.{sample-read}
use Rattle.snapshot.proofs.event.legal_event.Goals as goal

pub returns-then-is_sample : goal.returns-then-is_sample
unfolding legal_event
returns-then-is_sample c =
    let event = c.read_event-e in
    let e : Event = event_of (part c.args.s.now c.args.at event_size) in
    let fits : SFits w32 event.result.value = record { sfits = c.struct_told-1.given.1.1.0.1 } in
    let sample = sample-read fits event.ensures c.is_sample.ensures c.if-is_sample.true in
    rw (legal-sample e.kind e.sub e.value sample, and-true) c.reserved_zero.ensures

pub returns-else-is_sample : goal.returns-else-is_sample
unfolding legal_event
returns-else-is_sample c =
    let event = c.read_event-e in
    let fits : SFits w32 event.result.value = record { sfits = c.struct_told-else-is_sample-1.given.1.1.0.1 } in
    rw (c.reserved_zero-else-is_sample.ensures, c.legal.ensures, signed-unsigned fits, event.ensures)
