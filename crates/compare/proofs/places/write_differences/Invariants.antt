-- `compare::places::write_differences` meets its contract. The invariant: writing what is left from index k on gives the goal.
use mathlib.Core.Path.{◌≡◌}
use Prim.Native.Nat.{◌+◌, ◌-◌, ◌≤◌}
use lib.ListN.{length}
use Rattle.word.specs.Part.{put}
use Rattle.compare.specs.Places.{differing}
use Rattle.compare.proofs.Differing.{from}
use Rattle.compare.proofs.places.write_differences.Given as goal

abbrev pub invariant-loop-k : goal.invariant-loop-k
invariant-loop-k l =
    (l.k ≤ l.i)
    × (l.k + length (from l.first l.second l.count l.i) ≡ l.n)
    × (length l.row ≡ length l.initial.row)
    × (put l.row l.k (from l.first l.second l.count l.i) ≡ put l.initial.row 0 (differing l.first l.second 0 l.count))

abbrev pub decreases-loop-k : goal.decreases-loop-k
decreases-loop-k l = l.count - l.i
