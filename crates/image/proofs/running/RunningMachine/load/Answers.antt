-- `load` of a running counter meets the contract of a machine: a well-formed snapshot holds a good state, which stands in the bytes that
-- were copied.
use mathlib.Core.Path.{sym, subst}
use Rattle.word.proofs.Part.{length-part, bytes-part}
use Rattle.counter.specs.WellFormed.{Good}
use Rattle.snapshot.specs.Widths.{snapshot_size}
use Rattle.snapshot.proofs.RoundTrip.{good-decode}
use Rattle.image.proofs.running.RunningMachine.load.Goals as goal

pub invariant_of-result : goal.invariant_of-result
invariant_of-result c =
    let a = c.args in
    let bytes = bytes-part a.image.now a.at snapshot_size (λ i. (c.type_inv.image i).fits) in
    let long = length-part a.image.now a.at snapshot_size c.requires.within in
    subst Good (sym c.load_state.ensures) (good-decode _ bytes long c.requires.can_load)
