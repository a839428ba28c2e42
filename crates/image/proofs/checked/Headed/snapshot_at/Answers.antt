-- `image::checked::Headed::snapshot_at` meets its contract: the header's numbers are within their limits, so the place is a number that fits.
use Prim.Native.Nat.{◌+◌, ◌≤◌}
use native.Mathlib.Nat.{div-le_self, mul-le-mul}
use native.Mathlib.Omega.{arith}
use Rattle.image.specs.Header.{max_events, event_count, spacing_of}
use Rattle.image.proofs.Headers.{header-passed}
use Rattle.image.proofs.checked.Headed.snapshot_at.Goals as goal

pub snapshot_place-requires : goal.snapshot_place-requires
snapshot_place-requires c =
    let self = c.args.self.now in
    let few = (header-passed _ self.passes).limits.few in
    let count : c.args.s ≤ max_events + 1 =
    omega (arith, few, c.requires, div-le_self (event_count self.image.now) (spacing_of self.image.now)) in
    let table = mul-le-mul count c.size.ensures.1 in
    omega (arith, few, self.count_told, table)
