-- `report::text::Text::push_decimal` meets its contract: the fewest digits are the definition's text.
use mathlib.Core.Path.{ap, ◌∙◌}
use mathlib.Core.List.{List, ◌++◌}
use Prim.Native.Nat.{ℕ}
use Rattle.report.proofs.Digits.{decimal-fewest}
use Rattle.report.proofs.text.Text.push_decimal.Goals as goal

pub push-requires : goal.push-requires
push-requires c =
    rw (c.decimal-k.ensures.digits ∙ decimal-fewest c.args.n c.decimal-k.result c.ranges.n.fits c.decimal-k.ensures.len) c.requires

pub returns-clause-text : goal.returns-clause-text
returns-clause-text c =
    c.push.ensures.text
    ∙ ap (λ (l : List ℕ). c.args.self.now ++ l)
    (c.decimal-k.ensures.digits ∙ decimal-fewest c.args.n c.decimal-k.result c.ranges.n.fits c.decimal-k.ensures.len)
