-- `check` meets its contract: rules 1, 2 and 6 are the definition's, and those between are those of the presets.
use Rattle.std.proofs.Common.{arith}
use Rattle.counter.proofs.FirstBroken.{first-presets}
use Rattle.counter.proofs.state.Settings.check.Goals as goal

pub returns-in_err-check_by : goal.returns-in_err-check_by
returns-in_err-check_by c = let e = first-presets c.args.self.now in grind arith

pub returns-in_err-check_by-2 : goal.returns-in_err-check_by-2
returns-in_err-check_by-2 c = let e = first-presets c.args.self.now in grind arith

pub returns-in_err-check_presets : goal.returns-in_err-check_presets
returns-in_err-check_presets c = let e = first-presets c.args.self.now in grind arith

pub returns : goal.returns
returns c = let e = first-presets c.args.self.now in grind arith
