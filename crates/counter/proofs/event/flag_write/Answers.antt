-- `flag_write` meets its contract: a number past the flags names none.
use Rattle.std.proofs.Common.{arith}
use Rattle.counter.specs.Events.{legal}
use Rattle.counter.proofs.Legal.{no-flag}
use Rattle.counter.proofs.event.flag_write.Goals as goal

pub returns-in_err-flag : goal.returns-in_err-flag
unfolding legal
returns-in_err-flag c = let none = no-flag c.args.sub c.args.value in grind arith
