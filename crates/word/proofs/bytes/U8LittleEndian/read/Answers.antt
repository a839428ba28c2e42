-- The number in one byte.
use mathlib.Core.Path.{sym}
use native.Mathlib.Omega.{arith}
use Rattle.word.proofs.LittleEndian.{number_at-one}
use Rattle.word.proofs.bytes.U8LittleEndian.read.Goals as goal

pub returns : goal.returns
returns c = sym (number_at-one c.args.bytes.now c.args.at (omega (arith, c.requires)))
