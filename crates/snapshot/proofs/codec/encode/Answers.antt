-- `snapshot::codec::encode` meets its contract: two rows of settings and the numbers after them are one row, the snapshot's.
use mathlib.Core.Path.{refl}
use Prim.Native.Nat.{◌≤◌}
use lib.ListN.{length}
use native.Mathlib.Omega.{arith}
use mir.Syntax.{w32}
use Rattle.word.specs.Layouts.{total}
use Rattle.word.proofs.TwosComplement.{bits-back}
use Rattle.word.proofs.Writes.{then, end, wrote-from, put-rows}
use Rattle.counter.proofs.Typing.{counter-typed}
use Rattle.snapshot.specs.Snapshots.{encode}
use Rattle.snapshot.proofs.codec.encode.Goals as goal

pub returns : goal.returns
unfolding total encode
returns c =
    let s = c.args.s.now in
    let at = c.args.at in
    let f = counter-typed c.args.c _ c.struct_told-1.given in
    let other =
    wrote-from
    (then (bits-back w32 f.acc) c.write.ensures
    (then refl c.write-2.ensures
    (then refl c.write-3.ensures
    (then refl c.write-4.ensures
    (then refl c.write-5.ensures
    (then refl c.write-6.ensures
    (then refl c.write-7.ensures
    (then refl c.write-8.ensures end))))))))
    (omega (arith, c.requires)) in
    let room : at ≤ length s = omega (arith, c.requires) in
    put-rows _ _ _ _ s _ _ at room (put-rows _ _ _ _ s _ _ at room c.write_settings.ensures c.write_settings-2.ensures refl) other refl
