-- `snapshot::split::sample_over` meets its contract: where the sample makes nothing, its levels are all that is stored; where it raises no cause, what is
-- stored is the sample; and where it raises one, the cause is raised on that.
use mathlib.Core.Path.{◌≡◌, refl, sym, ap, ◌∙◌}
use mathlib.Core.List.{[], ◌∷◌}
use Prim.Native.Nat.{ℕ}
use lib.IntN.{ℤ}
use mir.Syntax.{w32}
use Rattle.word.specs.TwosComplement.{unsigned}
use Rattle.word.specs.Layouts.{pack}
use Rattle.word.proofs.Branches.{answer-is}
use Rattle.word.proofs.TwosComplement.{signed-unsigned}
use Rattle.accumulator.specs.Causes.{number, cause_number}
use Rattle.counter.specs.declared.state.Counter.{Counter}
use Rattle.counter.specs.Parts.{with_acc, with_flags, with_levels, with_desk}
use Rattle.counter.specs.Desk.{empty}
use Rattle.counter.specs.Interrupts.{raise}
use Rattle.counter.specs.Sample.{unmoved, sampled, sampled_of}
use Rattle.counter.specs.Idle.{idle}
use Rattle.counter.proofs.Idle.{sampled-idle}
use Rattle.counter.proofs.Samples.{sampled-desk}
use Rattle.counter.proofs.Typing.{sampled-typed}
use Rattle.snapshot.specs.Widths.{moving_layout}
use Rattle.snapshot.specs.Snapshots.{decode}
use Rattle.snapshot.specs.Split.{split_state}
use Rattle.snapshot.proofs.Moving.{holds-as, split-moving, split-levels, split-with}
use Rattle.snapshot.proofs.Sampled.{stored, sample-quiet, sample-raised}
use Rattle.snapshot.proofs.split.sample_over.Goals as goal

pub returns-then-is_idle : goal.returns-then-is_idle
returns-then-is_idle c =
    let held : Counter =
    split_state c.args.s.now c.args.moving.now in
    let idle-of : unmoved held ≡ sampled c.args.new held =
    let new = c.args.new in
    let read = c.read_without_desk-c.ensures in
    sym (sampled-idle new (with_desk empty held) (ap (idle new) (sym read) ∙ answer-is c.is_idle.ensures c.if-is_idle.true))
    ∙ sampled-desk new empty held in
    let new = c.args.new in
    λ good. split-levels c.args.s.now c.args.moving.now new c.requires.1
    ∙ sample-quiet new held (unmoved held) idle-of refl

pub returns-in-None : goal.returns-in-None
returns-in-None c =
    let held : Counter =
    split_state c.args.s.now c.args.moving.now in
    let new = c.args.new in
    let r = c.sampled-r.result in
    let made_of : sampled_of r ≡ sampled new held =
    c.sampled-r.ensures ∙ ap (sampled new) c.read_without_desk-c.ensures ∙ sampled-desk new empty held in
    let fits = sampled-typed r _ c.struct_told-1.given in
    let moving = c.write.ensures ∙ ap (λ (v : ℤ). pack moving_layout (unsigned w32 v ∷ r.flags ∷ new ∷ [])) (signed-unsigned fits) in
    λ good. ap (split_state c.args.s.now) moving
    ∙ split-moving r.acc r.flags new c.args.s.now c.args.moving.now fits
    c.struct_told-1.given.1.0.1 c.ranges.new.fits
    ∙ sample-quiet new held (sampled_of r) made_of (ap cause_number c.in-None.is)

pub returns-in-Some : goal.returns-in-Some
returns-in-Some c =
    let held : Counter =
    split_state c.args.s.now c.args.moving.now in
    let new = c.args.new in
    let r = c.sampled-r.result in
    let cause = number c.in-Some.cause in
    let made_of : sampled_of r ≡ sampled new held =
    c.sampled-r.ensures ∙ ap (sampled new) c.read_without_desk-c.ensures ∙ sampled-desk new empty held in
    let fits = sampled-typed r _ c.struct_told-1.given in
    let next =
    ap (λ (v : ℤ). raise cause (with_flags r.flags (with_acc v (with_levels new (decode c.args.s.now))))) (signed-unsigned fits)
    ∙ ap (raise cause) (sym (split-with r.acc r.flags new c.args.s.now c.args.moving.now))
    ∙ ap (λ (n : ℕ). raise n (stored (sampled_of r) new held)) (sym (ap cause_number c.in-Some.is))
    ∙ sample-raised new held (sampled_of r) made_of in
    holds-as c.raise_over.new.s c.raise_over.new.moving next c.raise_over.ensures
