-- `write` of a digit meets the contract of a machine: the byte that is stored is its snapshot.
use Rattle.tally.proofs.Bytes.{byte-stored}
use Rattle.tally.proofs.digit.DigitMachine.write.Goals as goal

pub returns : goal.returns
returns c = byte-stored c.args.image.now c.args.at c.args.self.now.0 c.requires
