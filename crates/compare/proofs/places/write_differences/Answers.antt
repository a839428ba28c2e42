-- `compare::places::write_differences` meets its contract. The invariant: writing what is left from index k on gives the goal.
use mathlib.Core.Path.{◌≡◌, sym, ◌∙◌}
use Prim.Native.Nat.{◌<◌}
use native.Mathlib.Omega.{arith}
use lib.ListN.{length, length-set}
use Rattle.compare.specs.Places.{same_at, shared}
use Rattle.compare.proofs.Differing.{count-some, count-same, count-other, write-same, write-other, write-end}
use Rattle.compare.proofs.Events.{fronts-same}
use Rattle.compare.proofs.Fit.{traces-fit, inside-both, shared-few}
use Rattle.compare.proofs.places.write_differences.Goals as goal
use Rattle.compare.proofs.places.write_differences.Goals.{then-not-same_front, else-not-same_front}

pub same_front-requires : goal.same_front-requires
same_front-requires c =
    let within : c.loop-k.i < c.args.count =
    count-some _ _ _ _ _ _ c.loop-k.invariant.1 c.loop-k-test.true in
    omega (arith, within)

pub overflow_cast-row : goal.overflow_cast-row
overflow_cast-row c =
    let within : c.loop-k.i < c.args.count =
    count-some _ _ _ _ _ _ c.loop-k.invariant.1 c.loop-k-test.true in
    omega (arith, within, shared-few _ _ c.requires.accepted.0)

pub overflow_add-i : goal.overflow_add-i
overflow_add-i c =
    let within : c.loop-k.i < c.args.count =
    count-some _ _ _ _ _ _ c.loop-k.invariant.1 c.loop-k-test.true in
    omega (arith, within)

pub loop-k-smaller : goal.loop-k-smaller
loop-k-smaller c =
    let within : c.loop-k.i < c.args.count =
    count-some _ _ _ _ _ _ c.loop-k.invariant.1 c.loop-k-test.true in
    omega (arith, within)

pub loop-k-preserved : goal.loop-k-preserved
loop-k-preserved c =
    let within : c.loop-k.i < c.args.count =
    count-some _ _ _ _ _ _ c.loop-k.invariant.1 c.loop-k-test.true in
    let same-told : c.same_front.result ≡ same_at c.args.first.now c.args.second.now c.loop-k.i =
    let args = c.args in
    let i = c.loop-k.i in
    let here : i < shared args.first.now args.second.now = omega (arith, within, c.requires.accepted.1) in
    let fit = traces-fit _ _ c.requires.accepted.0 in
    let both = inside-both _ _ i here (λ j. (c.type_inv.first j).fits) (λ j. (c.type_inv.second j).fits) in
    c.same_front.ensures
    ∙ fronts-same _ _ i both.0 both.1 (fit.0.legal i (omega (arith, here))) (fit.1.legal i (omega (arith, here))) in
    let room : c.loop-k.k < length c.loop-k.row =
    omega (arith, c.loop-k-test.true, c.requires.counted.1, c.loop-k.invariant.2) in
    let here = within in
    let inv = c.loop-k.invariant in
    elim c.if-not-same_front.branch [
      | then-not-same_front w ↦
          let other = sym same-told ∙ w.if-not-same_front.true in (
            omega (arith, w.k-is),
            rw w.k-is (count-other _ _ _ _ _ _ inv.1 here other),
            rw (w.row-is, length-set) inv.2,
            rw (w.row-is, w.k-is) (write-other _ _ _ _ _ _ _ inv.3 here other room),
          )
      | else-not-same_front w ↦
          let same = sym same-told ∙ w.if-not-same_front.false in (
            omega (arith, w.k-is),
            rw w.k-is (count-same _ _ _ _ _ _ inv.1 here same),
            rw w.row-is inv.2,
            rw (w.row-is, w.k-is) (write-same _ _ _ _ _ _ _ inv.3 here same),
          )
    ]

pub returns : goal.returns
returns c = write-end _ _ _ _ _ _ _ c.loop-k.invariant.3 (omega (arith, c.loop-k.invariant.1, c.loop-k-test.false))
