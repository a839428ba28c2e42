-- `difference::first_difference` meets its contract. The invariant: the first difference is not passed. A block that is the same does not
-- reach it, one that differs has it, and so has what is left past the blocks, if only at its end.
use mathlib.Core.Path.{sym, ◌∙◌}
use native.Mathlib.Omega.{arith}
use Rattle.difference.proofs.Places.{difference-within, block-same, block-differs}
use Rattle.difference.proofs.first_difference.Goals as goal

pub returns-then-not-same_block : goal.returns-then-not-same_block
returns-then-not-same_block c =
    let differs = sym c.same_block.ensures ∙ c.if-not-same_block.true in
    omega (arith, c.scan.ensures, block-differs _ _ _ c.loop-block.invariant _ (omega arith) differs)

pub loop-block-preserved : goal.loop-block-preserved
loop-block-preserved c =
    let same = block-same _ _ _ c.loop-block.invariant _ (omega arith) (sym c.same_block.ensures ∙ c.if-not-same_block.false) in
    omega (arith, same)

pub returns : goal.returns
returns c =
    let args = c.args in
    omega (arith, c.scan-2.ensures, difference-within args.first.now args.second.now)
