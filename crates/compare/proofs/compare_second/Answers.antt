-- `compare::compare_second` meets its contract: what is refused of the second trace, beside the first or past it, is its verdict's; else the
-- list answers.
use mathlib.Core.Path.{◌≡◌, sym, ap, ◌∙◌}
use Prim.Native.Nat.{◌≤◌}
use native.Mathlib.Omega.{arith}
use Rattle.std.proofs.Common.{rules, Err}
use Rattle.refusal.specs.Refusals.{answer_of}
use Rattle.refusal.proofs.Answers.{accepted-answer}
use Rattle.image.specs.Rows.{events_in}
use Rattle.compare.proofs.Checked.{part-refused, part-passed}
use Rattle.compare.proofs.Answered.{front-passed, not-compared}
use Rattle.compare.proofs.compare_second.Goals as goal

pub list-requires : goal.list-requires
list-requires c =
    let only-second = front-passed _ _ c.requires in
    let within : c.min-count.result ≤ events_in c.args.second.now = omega (arith, c.min-count.ensures) in
    let counts = part-passed _ _ within _ _ (sym (ap answer_of c.in_ok-n.was) ∙ c.count_differences.ensures) in
    let accepted = accepted-answer _ _ c.trace_verdict.ensures c.in_ok-trace_verdict.was in
    record { accepted = (sym only-second ∙ accepted, c.min-count.ensures); counted = counts.1 }

pub returns-in_err-n : goal.returns-in_err-n
returns-in_err-n c =
    let r = c.in_err-n.field-0.0 in
    let same : c.from_residual.result ≡ Err r = search rules in
    let within : c.min-count.result ≤ events_in c.args.second.now = omega (arith, c.min-count.ensures) in
    let refused = sym (ap answer_of c.in_err-n.was) ∙ c.count_differences.ensures in
    let all = not-compared _ _ _ r (part-refused _ _ within r _ refused ∙ front-passed _ _ c.requires) in
    record { answer = ap answer_of same ∙ all.0; row = all.1 }

pub returns-in_err-trace_verdict : goal.returns-in_err-trace_verdict
returns-in_err-trace_verdict c =
    let r = c.in_err-trace_verdict.field-0.0 in
    let same : c.from_residual-in_err-trace_verdict.result ≡ Err r = search rules in
    let refused = sym (ap answer_of c.in_err-trace_verdict.was) ∙ c.trace_verdict.ensures in
    let all = not-compared _ _ _ r (refused ∙ front-passed _ _ c.requires) in
    record { answer = ap answer_of same ∙ all.0; row = all.1 }
