-- `compare::list` meets its contract: the row is refused where it is too short, and filled where it is not.
use mathlib.Core.Path.{◌≡◌, ap, ◌∙◌}
use lib.ListN.{length}
use Rattle.word.specs.Part.{put}
use Rattle.compare.specs.Places.{differing, differences}
use Rattle.compare.proofs.Answered.{not-listed, all-listed}
use Rattle.compare.proofs.list.Goals as goal

pub returns-then-row-n : goal.returns-then-row-n
returns-then-row-n c =
    let all : let args = c.args in
    differing args.first.now args.second.now 0 args.count ≡ differences args.first.now args.second.now =
    ap (differing c.args.first.now c.args.second.now 0) c.requires.accepted.1 in
    let all = not-listed _ _ _ c.requires.accepted.0 _ (c.requires.counted ∙ ap length all) c.if-row-n.true in
    record { answer = all.0; row = all.1 }

pub returns : goal.returns
returns c =
    let all : let args = c.args in
    differing args.first.now args.second.now 0 args.count ≡ differences args.first.now args.second.now =
    ap (differing c.args.first.now c.args.second.now 0) c.requires.accepted.1 in
    let all = all-listed _ _ _ c.requires.accepted.0 _ (c.requires.counted ∙ ap length all) c.if-row-n.false _
    (c.write_differences.ensures ∙ ap (put c.args.row.now 0) all) in
    record { answer = all.0; row = all.1 }
