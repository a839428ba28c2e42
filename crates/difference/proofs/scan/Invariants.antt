-- `difference::scan` meets its contract. The invariant: the first difference is not passed.
use Prim.Native.Nat.{◌≤◌}
use Rattle.difference.specs.FirstDifference.{first_difference}
use Rattle.difference.proofs.scan.Given as goal

abbrev pub invariant-loop-i : goal.invariant-loop-i
invariant-loop-i l = (l.i ≤ l.end) × (l.i ≤ first_difference l.first l.second)
