-- `difference::first_difference` meets its contract. The invariant: the first difference is not passed. A block that is the same does not
-- reach it, one that differs has it, and so has what is left past the blocks, if only at its end.
use Prim.Native.Nat.{◌≤◌, ◌*◌}
use Rattle.difference.specs.FirstDifference.{first_difference}
use Rattle.difference.proofs.first_difference.Given as goal

abbrev pub invariant-loop-block : goal.invariant-loop-block
invariant-loop-block l = l.block * 64 ≤ first_difference l.first l.second
