-- `report::buffer::append_decimal` meets its contract: a number of 64 bits has 20 digits at most.
use native.Mathlib.Omega.{arith}
use Rattle.report.proofs.Digits.{length-decimal}
use Rattle.report.proofs.buffer.append_decimal.Goals as goal

pub push_decimal-requires : goal.push_decimal-requires
push_decimal-requires c = let digits = length-decimal 20 c.args.n in grind arith
