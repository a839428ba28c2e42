-- `load` of a digit meets the contract of a machine: the byte that is read is a snapshot.
use Rattle.tally.proofs.Bytes.{byte-read}
use Rattle.tally.proofs.digit.DigitMachine.load.Goals as goal

pub returns : goal.returns
returns c = byte-read c.args.image.now c.args.at
