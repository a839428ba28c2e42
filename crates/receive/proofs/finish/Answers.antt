-- `receive::finish` meets its contract: a refusal that is remembered stays, bytes that are missing are refused, and nothing else moves.
use mathlib.Core.Path.{◌≡◌, sym, ap, ◌∙◌, subst}
use mathlib.Core.List.{List, []}
use Prim.Native.Nat.{ℕ, ◌≤◌, ◌<◌}
use native.Mathlib.Omega.{arith}
use Rattle.image.specs.Header.{header_verdict}
use Rattle.reader.specs.Formats.{image_end}
use Rattle.reader.specs.Layout.{laid, bytes_of, taken_in, header_in, reader_in}
use Rattle.reader.specs.WellFormed.{Held}
use Rattle.reader.specs.Phases.{InHeader, InEvents, PastEvents}
use Rattle.receive.specs.Calls.{ended_by}
use Rattle.reader.proofs.Heads.{events-before, fault-small}
use Rattle.reader.proofs.Views.{OpenedView, opened-view}
use Rattle.reader.proofs.Written.{Writes}
use Rattle.reader.proofs.RoundTrip.{writes}
use Rattle.receive.proofs.Ready.{end-sound}
use Rattle.receive.proofs.Ends.{refused-ends, heading-ends, short-ends, whole-ends}
use Rattle.receive.proofs.finish.Goals as goal

-- the bytes that the end leaves are those of the reader that it leaves
module _ (b : List ℕ) (held : Held b) where
  back : Writes (ended_by b)
  back = writes (ended_by b) (end-sound b held.bytes held.formed)

  left-held : {out : List ℕ} → out ≡ bytes_of (ended_by b) → Held out
  left-held left = subst Held (sym left) record { formed = back.formed; bytes = back.bytes }

  left-reader : {out : List ℕ} → out ≡ bytes_of (ended_by b) → reader_in out ≡ ended_by b
  left-reader left = ap reader_in left ∙ back.back

-- in each phase
module _ (b : List ℕ) (t : ℕ) where
  header-left : InHeader b t → {out : List ℕ} → out ≡ laid 0 [] [] 1 0 [] → out ≡ bytes_of (ended_by b)
  header-left e left = left ∙ heading-ends b e.held.bytes e.held.formed e.clear (omega (arith, e.taken, e.short))

  events-left : InEvents b t → {out : List ℕ} → out ≡ laid 0 [] [] 4 0 [] → out ≡ bytes_of (ended_by b)
  events-left e left =
      left
      ∙ short-ends b e.held.bytes e.held.formed e.clear (omega (arith, e.taken, e.past))
      (omega (arith, e.taken, e.more, events-before (header_in b)))

  module _ (e : PastEvents b t) where
    view : OpenedView (header_in b) b (taken_in b)
    view = opened-view b e.held.bytes e.held.formed e.clear (omega (arith, e.taken, e.past))

    missing-left : t < image_end (header_in b) → {out : List ℕ} → out ≡ laid 0 [] [] 4 0 [] → out ≡ bytes_of (ended_by b)
    missing-left less left =
        left ∙ short-ends b e.held.bytes e.held.formed e.clear (omega (arith, e.taken, e.past)) (omega (arith, e.taken))

    whole-left : image_end (header_in b) ≤ t → b ≡ bytes_of (ended_by b)
    whole-left all = whole-ends b e.held.bytes e.held.formed e.clear (omega (arith, e.taken, e.past)) (omega (arith, e.taken))

pub invariant_of-reader : goal.invariant_of-reader
invariant_of-reader c = left-held _ c.in-Header.ensures.held (header-left _ _ c.in-Header.ensures c.remember.ensures)

pub invariant_of-reader-in-Events : goal.invariant_of-reader-in-Events
invariant_of-reader-in-Events c =
    left-held _ c.in-Events.ensures.held (events-left _ _ c.in-Events.ensures c.remember-in-Events.ensures)

pub image_end-requires : goal.image_end-requires
image_end-requires c =
    ap (λ (b : List ℕ). header_verdict (header_in b)) c.reader.view_is ∙ (view _ _ c.in-Snapshots.ensures).head.verdict

pub invariant_of-reader-then-taken-image_end : goal.invariant_of-reader-then-taken-image_end
invariant_of-reader-then-taken-image_end c =
    let e = c.in-Snapshots.ensures in
    let end = c.image_end.ensures.0 ∙ ap (λ (b : List ℕ). image_end (header_in b)) c.reader.view_is in
    left-held _ e.held
    (missing-left _ _ e (omega (arith, end, c.if-taken-image_end.true)) c.remember-then-taken-image_end.ensures)

pub returns-in-Header : goal.returns-in-Header
returns-in-Header c =
    let left = header-left _ _ c.in-Header.ensures c.remember.ensures in
    record { bytes = left; reader = left-reader _ c.in-Header.ensures.held left }

pub returns-in-Events : goal.returns-in-Events
returns-in-Events c =
    let left = events-left _ _ c.in-Events.ensures c.remember-in-Events.ensures in
    record { bytes = left; reader = left-reader _ c.in-Events.ensures.held left }

pub returns-then-taken-image_end : goal.returns-then-taken-image_end
returns-then-taken-image_end c =
    let e = c.in-Snapshots.ensures in
    let end = c.image_end.ensures.0 ∙ ap (λ (b : List ℕ). image_end (header_in b)) c.reader.view_is in
    let left = missing-left _ _ e (omega (arith, end, c.if-taken-image_end.true)) c.remember-then-taken-image_end.ensures in
    record { bytes = left; reader = left-reader _ e.held left }

pub returns-else-taken-image_end : goal.returns-else-taken-image_end
returns-else-taken-image_end c =
    let e = c.in-Snapshots.ensures in
    let end = c.image_end.ensures.0 ∙ ap (λ (b : List ℕ). image_end (header_in b)) c.reader.view_is in
    let left = whole-left _ _ e (omega (arith, end, c.if-taken-image_end.false)) in
    record { bytes = left; reader = left-reader _ e.held left }

pub returns-in-Refused : goal.returns-in-Refused
returns-in-Refused c =
    let held = c.in-Refused.ensures.held in
    let left = refused-ends c.args.reader.now held.bytes held.formed (fault-small c.in-Refused.ensures.told.may).2 in
    record { bytes = left; reader = left-reader _ held left }
