-- `sample` meets its contract: no cause raises nothing, so the test changes nothing.
use mathlib.Core.Path.{sym}
use Rattle.word.proofs.TwosComplement.{signed-unsigned}
use Rattle.counter.specs.Sample.{sample}
use Rattle.counter.proofs.Typing.{sampled-typed}
use Rattle.counter.proofs.Raising.{raise-none}
use Rattle.counter.proofs.state.Counter.sample.Goals as goal

pub returns-in-Some : goal.returns-in-Some
unfolding sample
returns-in-Some c =
    let fits = sampled-typed c.sampled-r.result _ c.struct_told-1.given in
    rw (← c.sampled-r.ensures, c.in-Some.is) (rw (signed-unsigned fits) at c.raise.ensures)

pub returns-in_default : goal.returns-in_default
unfolding sample
returns-in_default c =
    let fits = sampled-typed c.sampled-r.result _ c.struct_told-1.given in
    rw (signed-unsigned fits, ← c.sampled-r.ensures, c.in_default.is) (sym (raise-none _))
