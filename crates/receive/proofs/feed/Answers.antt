-- `receive::feed` meets its contract: 9 leaves everything, and what is not refused by it is taken.
use mathlib.Core.Path.{◌≡◌, sym, ap, ◌∙◌, subst}
use mathlib.Core.List.{List}
use Prim.Native.Nat.{ℕ}
use Rattle.std.proofs.Common.{rules}
use Rattle.refusal.specs.Refusals.{answer_of, Placed}
use Rattle.pieces.specs.Traces.{verdict}
use Rattle.reader.specs.Formats.{format}
use Rattle.receive.specs.Calls.{fed_by, feed_verdict}
use Rattle.receive.proofs.Ready.{passes-ready, feed-verdict}
use Rattle.receive.proofs.Bounds.{feed-placed}
use Rattle.receive.proofs.feed.Goals as goal

pub feed_held-answer-requires : goal.feed_held-answer-requires
feed_held-answer-requires c = (passes-ready _ _ (λ i. c.fits-reader i) c.told-reader c.in_ok-held.ensures.0).long

pub returns-in_err-held-clause-placed : goal.returns-in_err-held-clause-placed
unfolding feed_verdict
returns-in_err-held-clause-placed c =
    let a = c.args in
    let answered : answer_of c.from_residual.result ≡ feed_verdict a.reader.now a.chunk.now a.buffer.now = search rules in
    subst Placed (sym answered) (feed-placed _ _ (λ i. c.fits-reader i) c.told-reader _ (λ i. (c.type_inv.chunk i).fits))

pub returns-clause-placed : goal.returns-clause-placed
returns-clause-placed c =
    let a = c.args in
    let ready = passes-ready _ _ (λ i. c.fits-reader i) c.told-reader c.in_ok-held.ensures.0 in
    let answered : answer_of c.feed_held-answer.result ≡ feed_verdict a.reader.now a.chunk.now a.buffer.now =
    c.feed_held-answer.ensures.answer
    ∙ ap (λ (b : List ℕ). verdict format (fed_by b a.chunk.now).reader.phase) c.in_ok-held.ensures.1
    ∙ sym (feed-verdict ready a.chunk.now) in
    subst Placed (sym answered) (feed-placed _ _ (λ i. c.fits-reader i) c.told-reader _ (λ i. (c.type_inv.chunk i).fits))
