-- `image::checked::Checked::starts_verdict` meets its contract: the bytes that are tested are those of snapshot 0.
use mathlib.Core.Path.{sym, ◌∙◌}
use native.Mathlib.Omega.{arith}
use Rattle.image.proofs.Accepted.{image-passed}
use Rattle.image.proofs.Mendable.{snapshot-inside, starts-passes}
use Rattle.image.proofs.checked.Checked.starts_verdict.Goals as goal

pub starts-requires : goal.starts-requires
starts-requires c =
    let checked = c.args.self.now in
    rw c.snapshot_at.ensures (snapshot-inside _ (image-passed _ checked.passes) 0 (omega arith) checked.headed.edition_told)

pub returns : goal.returns
returns c = starts-passes _ _ c.args.self.now.headed.edition_told _ c.snapshot_at.ensures (sym c.starts.ensures ∙ c.if-not-starts.false)
