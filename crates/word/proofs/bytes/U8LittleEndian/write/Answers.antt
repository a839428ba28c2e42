-- One byte is stored.
use native.Mathlib.Omega.{arith}
use Rattle.word.proofs.LittleEndian.{set-byte}
use Rattle.word.proofs.bytes.U8LittleEndian.write.Goals as goal

pub returns : goal.returns
returns c = set-byte c.args.bytes.now c.args.at c.args.self (omega (arith, c.requires)) c.ranges.self.fits
