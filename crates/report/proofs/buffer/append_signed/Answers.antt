-- `report::buffer::append_signed` meets its contract: a sign and the digits of 32 bits are 21 bytes at most.
use native.Mathlib.Omega.{arith}
use mir.Syntax.{w32}
use mir.Val.{to_z, of_z}
use Rattle.report.proofs.Signs.{length-signed}
use Rattle.report.proofs.buffer.append_signed.Goals as goal

pub push_signed-requires : goal.push_signed-requires
push_signed-requires c = let digits = length-signed (to_z w32 (of_z w32 c.args.v)) in grind arith
