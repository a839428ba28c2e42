-- `raise` of a number meets its contract: a number that is no cause's raises nothing.
use mathlib.Core.Path.{sym}
use Rattle.counter.proofs.Raising.{raise-other}
use Rattle.counter.proofs.numbers.raise.Goals as goal

pub returns-in-Err : goal.returns-in-Err
returns-in-Err c = sym (raise-other c.args.cause c.in-Err.ensures.1 c.args.counter.now)
