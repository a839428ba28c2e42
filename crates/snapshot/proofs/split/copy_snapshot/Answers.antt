-- `snapshot::split::copy_snapshot` meets its contract: the snapshot is as long as what it is copied over.
use mathlib.Core.Path.{sym, ◌∙◌}
use Rattle.word.specs.Part.{part}
use Rattle.word.proofs.Part.{length-part, put-whole}
use Rattle.snapshot.specs.Widths.{snapshot_size}
use Rattle.snapshot.proofs.split.copy_snapshot.Goals as goal

pub returns : goal.returns
returns c =
    let a = c.args in
    c.copy_part.ensures
    ∙ put-whole a.s.now (part a.image.now a.at snapshot_size)
    (c.requires.1 ∙ sym (length-part a.image.now a.at snapshot_size c.requires.0))
