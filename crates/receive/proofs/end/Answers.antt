-- `receive::end` meets its contract: 9 leaves everything, and what is not refused by it takes the end.
use mathlib.Core.Path.{◌≡◌, sym, ap, ◌∙◌, subst}
use mathlib.Core.List.{List}
use Prim.Native.Nat.{ℕ}
use Rattle.std.proofs.Common.{rules}
use Rattle.refusal.specs.Refusals.{answer_of, Placed}
use Rattle.pieces.specs.Traces.{verdict}
use Rattle.reader.specs.Formats.{format}
use Rattle.receive.specs.Calls.{ended_by, end_verdict}
use Rattle.receive.proofs.Ready.{passes-ready, end-verdict}
use Rattle.receive.proofs.Bounds.{end-placed}
use Rattle.receive.proofs.end.Goals as goal

pub end_held-answer-requires : goal.end_held-answer-requires
end_held-answer-requires c = (passes-ready _ _ (λ i. c.fits-reader i) c.told-reader c.in_ok-held.ensures.0).long

pub returns-in_err-held-clause-placed : goal.returns-in_err-held-clause-placed
unfolding end_verdict
returns-in_err-held-clause-placed c =
    let answered : answer_of c.from_residual.result ≡ end_verdict c.args.reader.now c.args.buffer.now = search rules in
    subst Placed (sym answered) (end-placed _ _ (λ i. c.fits-reader i) c.told-reader)

pub returns-clause-placed : goal.returns-clause-placed
returns-clause-placed c =
    let ready = passes-ready _ _ (λ i. c.fits-reader i) c.told-reader c.in_ok-held.ensures.0 in
    let answered : answer_of c.end_held-answer.result ≡ end_verdict c.args.reader.now c.args.buffer.now =
    c.end_held-answer.ensures.answer
    ∙ ap (λ (b : List ℕ). verdict format (ended_by b).phase) c.in_ok-held.ensures.1
    ∙ sym (end-verdict ready) in
    subst Placed (sym answered) (end-placed _ _ (λ i. c.fits-reader i) c.told-reader)
