-- `is_at` of a digit meets the contract of a machine: the byte that is compared is a snapshot.
use Rattle.tally.proofs.Bytes.{byte-compared}
use Rattle.tally.proofs.digit.DigitMachine.is_at.Goals as goal

pub returns : goal.returns
returns c = byte-compared c.args.image.now c.args.at c.args.self.now.0 c.requires
