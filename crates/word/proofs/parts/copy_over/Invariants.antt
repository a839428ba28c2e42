-- `word::parts::copy_over` meets its contract. The invariant: the first i elements of `src` are written, and `dst` is as long as it was.
use mathlib.Core.Path.{◌≡◌}
use Prim.Native.Nat.{◌≤◌}
use lib.ListN.{length, take}
use Rattle.word.specs.Part.{put}
use Rattle.word.proofs.parts.copy_over.Given as goal

abbrev pub invariant-loop-i : goal.invariant-loop-i
invariant-loop-i g l = (l.i ≤ length l.src) × (l.dst ≡ put l.initial.dst l.at (take l.i l.src)) × (length l.dst ≡ length l.initial.dst)
