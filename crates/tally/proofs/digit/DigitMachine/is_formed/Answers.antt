-- `is_formed` of a digit meets the contract of a machine: the byte that is read is a snapshot.
use mathlib.Core.Path.{ap}
use Prim.Native.Nat.{ℕ}
use lib.Dec.{ltb}
use Rattle.tally.proofs.Bytes.{byte-read}
use Rattle.tally.proofs.digit.DigitMachine.is_formed.Goals as goal

pub returns : goal.returns
returns c = ap (λ (b : ℕ). ltb b 10) (byte-read c.args.image.now c.args.at)
