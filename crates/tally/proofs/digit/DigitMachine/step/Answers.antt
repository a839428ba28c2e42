-- `step` of a digit meets the contract of a machine: the byte that is added is an event.
use mathlib.Core.Path.{ap}
use Rattle.tally.specs.Tally.{added}
use Rattle.tally.proofs.Bytes.{byte-read}
use Rattle.tally.proofs.digit.DigitMachine.step.Goals as goal

pub returns : goal.returns
returns c = rw (c.from.ensures, c.from-2.ensures) (ap (added c.args.self.now.0) (byte-read c.args.events.now c.args.at))
