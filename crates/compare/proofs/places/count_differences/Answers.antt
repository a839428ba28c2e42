-- `compare::places::count_differences` meets its contract. The invariant: checking on from here finds what the whole check finds, and what is
-- counted and what is left are all differences.
use mathlib.Core.Path.{◌≡◌, sym, ◌∙◌}
use mathlib.Core.Bool.{true}
use native.Mathlib.Omega.{arith}
use Rattle.snapshot.specs.EventBytes.{legal_event}
use Rattle.refusal.specs.declared.Trace.TheVariants.{First}
use Rattle.replay.proofs.Scan.{scan-end, scan-stop, scan-next}
use Rattle.image.specs.Editions.{base}
use Rattle.compare.specs.Places.{same_at}
use Rattle.compare.proofs.Differing.{count-same, count-other, count-end}
use Rattle.compare.proofs.Events.{bytes_at, fronts-same}
use Rattle.compare.proofs.Fit.{at-first, verdict-legal, inside-both}
use Rattle.compare.proofs.Checked.{check-stops, check-ends}
use Rattle.compare.proofs.places.count_differences.Goals as goal
use Rattle.compare.proofs.places.count_differences.Goals.{then-not-same_front, else-not-same_front}

pub legal_beside-requires : goal.legal_beside-requires
legal_beside-requires c =
    let first-legal : legal_event (bytes_at c.args.first.now c.loop-i.i) ≡ true =
    verdict-legal _ First c.requires.0 _ (omega (arith, c.loop-i-test.true, c.requires.1)) in
    (omega arith, first-legal)

pub returns-then-not-legal_beside : goal.returns-then-not-legal_beside
returns-then-not-legal_beside c =
    let illegal = at-first _ _ ∙ sym c.legal_beside.ensures ∙ c.if-not-legal_beside.true in
    let here = c.loop-i-test.true in
    check-stops _ _ _ _ (sym (scan-stop base _ 0 _ _ here illegal) ∙ c.loop-i.invariant.1) here

pub loop-i-preserved : goal.loop-i-preserved
loop-i-preserved c =
    let second-legal : legal_event (bytes_at c.args.second.now c.loop-i.i) ≡ true =
    sym c.legal_beside.ensures ∙ c.if-not-legal_beside.false in
    let first-legal : legal_event (bytes_at c.args.first.now c.loop-i.i) ≡ true =
    verdict-legal _ First c.requires.0 _ (omega (arith, c.loop-i-test.true, c.requires.1)) in
    let same-told : c.same_front.result ≡ same_at c.args.first.now c.args.second.now c.loop-i.i =
    let args = c.args in
    let both =
    inside-both args.first.now args.second.now c.loop-i.i
    (omega (arith, c.loop-i-test.true, c.requires.1)) (λ j. (c.type_inv.first j).fits)
    (λ j. (c.type_inv.second j).fits) in
    c.same_front.ensures ∙ fronts-same _ _ _ both.0 both.1 first-legal second-legal in
    let here = c.loop-i-test.true in
    let inv = c.loop-i.invariant in
    let passes = at-first _ _ ∙ second-legal in
    let next = sym (scan-next base _ 0 _ _ here passes) ∙ inv.1 in
    elim c.if-not-same_front.branch [
      | then-not-same_front w ↦
          let other = sym same-told ∙ w.if-not-same_front.true in
          (omega (arith, w.n-is), next, rw w.n-is (count-other _ _ _ _ _ _ inv.2 here other))
      | else-not-same_front w ↦
          let same = sym same-told ∙ w.if-not-same_front.false in
          (omega (arith, w.n-is), next, rw w.n-is (count-same _ _ _ _ _ _ inv.2 here same))
    ]

pub returns : goal.returns
returns c =
    let inv = c.loop-i.invariant in
    let past = c.loop-i-test.false in
    check-ends _ _ _ _ (sym (scan-end base _ 0 _ _ past) ∙ inv.1) past _ (count-end _ _ _ _ _ _ inv.2 past)
