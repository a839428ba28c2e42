-- `compare::places::count_differences` meets its contract. The invariant: checking on from here finds what the whole check finds, and what is
-- counted and what is left are all differences.
use mathlib.Core.Path.{◌≡◌}
use Prim.Native.Nat.{◌+◌, ◌-◌, ◌≤◌}
use lib.ListN.{length}
use Rattle.replay.specs.Events.{first_illegal}
use Rattle.image.specs.Editions.{base}
use Rattle.compare.specs.Places.{differing}
use Rattle.compare.proofs.Differing.{from}
use Rattle.compare.proofs.places.count_differences.Given as goal

abbrev pub invariant-loop-i : goal.invariant-loop-i
invariant-loop-i l =
    (l.n ≤ l.i)
    × (first_illegal base l.second 0 l.i (l.count - l.i) ≡ first_illegal base l.second 0 0 l.count)
    × (l.n + length (from l.first l.second l.count l.i) ≡ length (differing l.first l.second 0 l.count))
