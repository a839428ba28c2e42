-- `report::line::refusal_line` meets its contract: its pieces, one after the other.
use mathlib.Core.Path.{ap, ◌∙◌}
use mathlib.Core.List.{List, ◌++◌}
use Prim.Native.Nat.{ℕ}
use native.Mathlib.Omega.{arith}
use Rattle.report.specs.Line.{decimal, refused_word, at_word, line_end, refusal_line}
use Rattle.report.proofs.Digits.{length-decimal}
use Rattle.report.proofs.Pieces.{next}
use Rattle.report.proofs.line.refusal_line.Goals as goal

pub push_decimal-requires : goal.push_decimal-requires
push_decimal-requires c = let digits = length-decimal 20 c.args.number in grind arith

pub push_decimal-requires-2 : goal.push_decimal-requires-2
push_decimal-requires-2 c = let digits = length-decimal 20 c.args.place in grind arith

pub returns : goal.returns
unfolding refusal_line
returns c =
    let number = next refused_word (decimal c.args.number) c.new-line.ensures c.push.ensures.text c.push_decimal.ensures.text in
    let place = next at_word (decimal c.args.place) number c.push-2.ensures.text c.push_decimal-2.ensures.text in
    c.push-3.ensures.text ∙ ap (λ (l : List ℕ). l ++ line_end) place
