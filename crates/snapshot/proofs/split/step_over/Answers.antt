-- `snapshot::split::step_over` meets its contract: an event is a legal sample, or its step is that of the other kinds.
use mathlib.Core.Path.{◌≡◌, sym, ap, ◌∙◌}
use mathlib.Core.Bool.{Bool}
use Prim.Native.Nat.{ℕ}
use mir.Syntax.{w32}
use mir.Val.{SFits}
use Rattle.word.specs.Part.{part}
use Rattle.word.proofs.TwosComplement.{signed-unsigned}
use Rattle.counter.specs.declared.state.Counter.{Counter}
use Rattle.counter.specs.Sample.{sample}
use Rattle.counter.specs.Events.{is_sample, levels_of, step_control}
use Rattle.counter.proofs.ByKind.{step-sample, step-other}
use Rattle.snapshot.specs.Widths.{event_size}
use Rattle.snapshot.specs.EventBytes.{event_of, step_event}
use Rattle.snapshot.specs.Split.{split_state}
use Rattle.snapshot.specs.declared.event.Event.{Event}
use Rattle.snapshot.proofs.Sampled.{sample-read}
use Rattle.snapshot.proofs.Moving.{holds-as}
use Rattle.snapshot.proofs.split.step_over.Goals as goal

pub returns-then-is_sample : goal.returns-then-is_sample
unfolding step_event
returns-then-is_sample c =
    let event-of : Event =
    event_of (part c.args.events.now c.args.at event_size) in
    let held : Counter =
    split_state c.args.s.now c.args.moving.now in
    let asked_of : (b : Bool) → c.is_sample.result ≡ b → is_sample event-of.kind event-of.sub event-of.value ≡ b =
    λ b t. let fits : SFits w32 c.read_event-e.result.value = record { sfits = c.struct_told-1.given.1.1.0.1 } in
    sample-read fits c.read_event-e.ensures c.is_sample.ensures t in
    let e = event-of in
    let d = held in
    let fits : SFits w32 c.read_event-e.result.value = record { sfits = c.struct_told-then-is_sample-1.given.1.1.0.1 } in
    let new =
    c.levels_of.ensures ∙ ap levels_of (signed-unsigned fits) ∙ ap (λ (x : Event). levels_of x.value) c.read_event-e.ensures in
    let next =
    ap (λ (n : ℕ). sample n d) new
    ∙ sym (step-sample e.kind e.sub e.value d (asked_of _ c.if-is_sample.true)) in
    holds-as c.sample_over.new.s c.sample_over.new.moving next c.sample_over.ensures

pub returns-else-is_sample : goal.returns-else-is_sample
unfolding step_event
returns-else-is_sample c =
    let event-of : Event =
    event_of (part c.args.events.now c.args.at event_size) in
    let held : Counter =
    split_state c.args.s.now c.args.moving.now in
    let asked_of : (b : Bool) → c.is_sample.result ≡ b → is_sample event-of.kind event-of.sub event-of.value ≡ b =
    λ b t. let fits : SFits w32 c.read_event-e.result.value = record { sfits = c.struct_told-1.given.1.1.0.1 } in
    sample-read fits c.read_event-e.ensures c.is_sample.ensures t in
    let e = event-of in
    let d = held in
    let x = c.read_event-e.result in
    let fits : SFits w32 x.value = record { sfits = c.struct_told-else-is_sample-1.given.1.1.0.1 } in
    let next =
    ap (λ v. step_control x.kind x.sub v d) (signed-unsigned fits)
    ∙ ap (λ (y : Event). step_control y.kind y.sub y.value d) c.read_event-e.ensures
    ∙ sym (step-other e.kind e.sub e.value d (asked_of _ c.if-is_sample.false)) in
    holds-as c.control_over.new.s c.control_over.new.moving next c.control_over.ensures
