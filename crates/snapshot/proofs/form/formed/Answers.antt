-- `snapshot::form::formed` meets its contract: the state that the snapshot holds is asked, which says the same.
use mathlib.Core.Path.{sym, ap, ◌∙◌}
use Rattle.word.specs.Part.{part}
use Rattle.counter.specs.WellFormed.{well_formed}
use Rattle.snapshot.specs.Widths.{snapshot_size}
use Rattle.snapshot.proofs.Rules.{formed-decode}
use Rattle.snapshot.proofs.form.formed.Goals as goal

pub returns : goal.returns
returns c =
    let snapshot = part c.args.s.now c.args.at snapshot_size in
    c.is_well_formed.ensures ∙ ap well_formed c.decode-c.ensures ∙ sym (formed-decode snapshot)
