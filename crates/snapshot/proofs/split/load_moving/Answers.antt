-- `snapshot::split::load_moving` meets its contract: the snapshot's own numbers, side by side.
use Rattle.snapshot.proofs.Moving.{moving-written, own-written}
use Rattle.snapshot.proofs.split.load_moving.Goals as goal

pub returns : goal.returns
returns c =
    own-written c.args.s.now (λ i. (c.shared_slice_known-1.given i).fits) c.requires.0
    (moving-written c.args.moving.now c.requires.1 c.read.ensures c.write.ensures c.read-2.ensures c.write-2.ensures
    c.read-3.ensures c.write-3.ensures)
