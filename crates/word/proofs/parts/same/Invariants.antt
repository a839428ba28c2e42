-- `word::parts::same` meets its contract. The invariant: what `all` says of the bytes passed, and the comparison of those left, are
-- together the comparison of the rows.
use mathlib.Core.Path.{◌≡◌}
use mathlib.Core.Bool.{◌&&◌}
use Prim.Native.Nat.{◌≤◌}
use lib.ListN.{length, drop}
use Rattle.word.specs.Same.{same_bytes}
use Rattle.word.proofs.parts.same.Given as goal

abbrev pub invariant-loop-i : goal.invariant-loop-i
invariant-loop-i l = (l.i ≤ length l.a) × (l.all && same_bytes (drop l.i l.a) (drop l.i l.b) ≡ same_bytes l.a l.b)
