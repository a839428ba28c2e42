-- `compare::check::first_verdict` meets its contract: the first of the two verdicts that refuses is the answer.
use native.Mathlib.Omega.{arith}
use Rattle.compare.proofs.Checked.{none-refused}
use Rattle.compare.proofs.check.first_verdict.Goals as goal

pub trace_verdict-requires : goal.trace_verdict-requires
trace_verdict-requires c = (omega arith, none-refused _)
