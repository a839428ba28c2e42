-- `compare::compare` meets its contract: what is refused of the lengths or the first trace is the traces' verdict; else the second is compared.
use mathlib.Core.Path.{◌≡◌, sym, ap, ◌∙◌}
use Rattle.std.proofs.Common.{rules, Err}
use Rattle.refusal.specs.Refusals.{answer_of}
use Rattle.compare.proofs.Answered.{front-refused, not-compared}
use Rattle.compare.proofs.compare.Goals as goal

pub returns-in_err-first_verdict : goal.returns-in_err-first_verdict
returns-in_err-first_verdict c =
    let r = c.in_err-first_verdict.field-0.0 in
    let same : c.from_residual.result ≡ Err r = search rules in
    let all = not-compared _ _ _ r (front-refused _ _ r (sym (ap answer_of c.in_err-first_verdict.was) ∙ c.first_verdict.ensures)) in
    record { answer = ap answer_of same ∙ all.0; row = all.1 }
