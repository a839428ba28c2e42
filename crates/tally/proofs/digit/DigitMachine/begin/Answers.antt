-- `begin` of a digit meets the contract of a machine: the byte that is stored is the snapshot of 0.
use Rattle.tally.proofs.Bytes.{byte-stored}
use Rattle.tally.proofs.digit.DigitMachine.begin.Goals as goal

pub returns : goal.returns
returns c = byte-stored c.args.image.now c.args.at 0 c.requires
