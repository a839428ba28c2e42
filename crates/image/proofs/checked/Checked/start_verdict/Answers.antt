-- `image::checked::Checked::start_verdict` meets its contract: the bytes that are tested are those of snapshot s.
use mathlib.Core.Path.{sym, ◌∙◌}
use native.Mathlib.Omega.{arith}
use Rattle.image.proofs.Accepted.{image-passed}
use Rattle.image.proofs.Mendable.{snapshot-inside, start-passes, start-refused}
use Rattle.image.proofs.checked.Checked.start_verdict.Goals as goal

pub formed-requires : goal.formed-requires
formed-requires c =
    let checked = c.args.self.now in
    rw c.snapshot_at.ensures (snapshot-inside _ (image-passed _ checked.passes) c.args.s (omega (arith, c.requires)) checked.headed.edition_told)

pub returns-then-not-formed : goal.returns-then-not-formed
returns-then-not-formed c =
    start-refused _ _ c.args.self.now.headed.edition_told _ _ c.snapshot_at.ensures (sym c.formed.ensures ∙ c.if-not-formed.true)

pub returns : goal.returns
returns c = start-passes _ _ c.args.self.now.headed.edition_told _ _ c.snapshot_at.ensures (sym c.formed.ensures ∙ c.if-not-formed.false)
