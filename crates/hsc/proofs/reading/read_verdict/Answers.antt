-- `hsc::reading::read_verdict` meets its contract: its tests are the definition's, in its order, on the whole buffer.
use borrow.Author.Tests.{eq-eqb, ne_eqb}
use Rattle.snapshot.specs.FormedBytes.{formed}
use Rattle.hsc.specs.Calls.{read_verdict}
use Rattle.hsc.proofs.Whole.{whole-answer}
use Rattle.hsc.proofs.reading.read_verdict.Goals as goal

pub returns-then-snapshot-ne-SNAPSHOT_SIZE : goal.returns-then-snapshot-ne-SNAPSHOT_SIZE
unfolding read_verdict
returns-then-snapshot-ne-SNAPSHOT_SIZE c = rw (ne_eqb _ _ c.if-snapshot-ne-SNAPSHOT_SIZE.true)

pub returns-then-not-formed : goal.returns-then-not-formed
unfolding read_verdict
returns-then-not-formed c =
    let snapshot = c.args.snapshot.now in
    rw (eq-eqb _ _ c.if-snapshot-ne-SNAPSHOT_SIZE.false, whole-answer formed snapshot c.if-snapshot-ne-SNAPSHOT_SIZE.false c.formed.ensures (c.if-not-formed.true))

pub returns : goal.returns
unfolding read_verdict
returns c =
    let snapshot = c.args.snapshot.now in
    rw (eq-eqb _ _ c.if-snapshot-ne-SNAPSHOT_SIZE.false, whole-answer formed snapshot c.if-snapshot-ne-SNAPSHOT_SIZE.false c.formed.ensures (c.if-not-formed.false))
