-- `step` meets its contract at a sample: the levels are those of the value.
use mathlib.Core.Path.{sym, ◌∙◌}
use Rattle.word.proofs.TwosComplement.{signed-unsigned}
use Rattle.counter.proofs.ByKind.{step-levels}
use Rattle.counter.proofs.state.Counter.step.Goals as goal

pub returns-in-Some-Sample : goal.returns-in-Some-Sample
returns-in-Some-Sample c =
    let a = c.args in
    let parsed = rw (signed-unsigned c.ranges.v, c.in-Some-Sample.is, c.in-Some-Sample.field-0-is) at c.parse.ensures in
    c.sample.ensures ∙ sym (step-levels a.kind a.sub a.v c.in-Some-Sample.levels a.self.now parsed.0 parsed.1)
