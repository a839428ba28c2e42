-- `difference::scan` meets its contract. The invariant: the first difference is not passed.
use native.Mathlib.Omega.{arith}
use Rattle.difference.proofs.Places.{next-same, here-differs}
use Rattle.difference.proofs.scan.Goals as goal

pub returns-then-first-i : goal.returns-then-first-i
returns-then-first-i c = omega (arith, here-differs _ _ _ c.loop-i.invariant.1 c.if-first-i.true)

pub loop-i-preserved : goal.loop-i-preserved
loop-i-preserved c = (omega arith, next-same _ _ _ c.loop-i.invariant.1 (omega arith) c.if-first-i.false)
