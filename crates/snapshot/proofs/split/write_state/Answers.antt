-- `snapshot::split::write_state` meets its contract: a good state is read back from what was written.
use mathlib.Core.Path.{ap, ◌∙◌}
use Rattle.word.specs.Layouts.{pack}
use Rattle.snapshot.specs.Widths.{moving_layout}
use Rattle.snapshot.specs.declared.split.Moving.{Moving}
use Rattle.snapshot.specs.Split.{split_state, moving_row}
use Rattle.snapshot.proofs.Moving.{written-whole, split-written}
use Rattle.snapshot.proofs.split.write_state.Goals as goal

pub returns : goal.returns
returns c =
    let d = c.args.c in
    let bytes = written-whole c.args.s.now d c.requires.0 c.encode.ensures in
    let moving = c.write.ensures ∙ ap (λ (m : Moving). pack moving_layout (moving_row m)) c.of.ensures in
    λ good. (λ i. split_state (bytes i) (moving i)) ∙ split-written d good
