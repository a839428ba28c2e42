-- `compare::check::trace_verdict` meets its contract: what is found past the legal events is what the whole check finds.
use mathlib.Core.Path.{◌≡◌, ap, ◌∙◌}
use Prim.Native.Nat.{ℕ, ◌+◌}
use native.Mathlib.Omega.{arith}
use Rattle.refusal.specs.Refusals.{in_trace}
use Rattle.replay.specs.Events.{first_illegal}
use Rattle.image.specs.Editions.{base}
use Rattle.image.specs.Rows.{events_in}
use Rattle.image.proofs.Accepted.{found, not-found}
use Rattle.compare.specs.Comparing.{trace_verdict}
use Rattle.compare.proofs.Checked.{found-past}
use Rattle.compare.proofs.check.trace_verdict.Goals as goal

pub returns-then-i-left : goal.returns-then-i-left
unfolding trace_verdict
returns-then-i-left c =
    let found-in-all : let args = c.args in
    args.count + c.first_illegal-i.result ≡ first_illegal base args.trace.now 0 0 (events_in args.trace.now) =
    ap (λ (i : ℕ). c.args.count + i) c.first_illegal-i.ensures ∙ found-past _ _ c.requires.0 c.requires.1 in
    ap (in_trace _) (found base _ 0 5 _ _ found-in-all (omega (arith, c.if-i-left.true)))

pub returns : goal.returns
unfolding trace_verdict
returns c =
    let found-in-all : let args = c.args in
    args.count + c.first_illegal-i.result ≡ first_illegal base args.trace.now 0 0 (events_in args.trace.now) =
    ap (λ (i : ℕ). c.args.count + i) c.first_illegal-i.ensures ∙ found-past _ _ c.requires.0 c.requires.1 in
    ap (in_trace _) (not-found base _ 0 5 _ _ found-in-all (omega (arith, c.if-i-left.false)))
