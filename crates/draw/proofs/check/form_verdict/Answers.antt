-- `draw::check::form_verdict` meets its contract: the snapshot is the whole buffer.
use mathlib.Core.Path.{◌≡◌, ap, ◌∙◌}
use Rattle.word.proofs.Part.{part-whole}
use Rattle.refusal.proofs.Answers.{test-passes, test-refuses}
use Rattle.image.specs.Editions.{system}
use Rattle.draw.specs.Drawing.{form_verdict}
use Rattle.draw.proofs.check.form_verdict.Goals as goal

pub returns : goal.returns
unfolding form_verdict
returns c =
    let answered : c.formed.result ≡ (system c.args.ed).formed c.args.snapshot.now =
    c.formed.ensures ∙ ap (system c.args.ed).formed (part-whole c.args.snapshot.now _ c.requires) in
    test-passes 6 0 answered c.if-not-formed.false

pub returns-then-not-formed : goal.returns-then-not-formed
unfolding form_verdict
returns-then-not-formed c =
    let answered : c.formed.result ≡ (system c.args.ed).formed c.args.snapshot.now =
    c.formed.ensures ∙ ap (system c.args.ed).formed (part-whole c.args.snapshot.now _ c.requires) in
    test-refuses 6 0 answered c.if-not-formed.true
