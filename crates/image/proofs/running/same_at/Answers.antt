-- `image::running::same_at` meets its contract: the two parts that are lent are the same exactly if their first difference is their length.
use mathlib.Core.Path.{◌≡◌, sym, ap, ◌∙◌}
use mathlib.Core.List.{List}
use Prim.Native.Nat.{ℕ, ◌+◌, ◌-◌}
use native.Mathlib.Omega.{arith}
use lib.Dec.{eqb}
use lib.ListN.{length, take, drop}
use Rattle.word.specs.Part.{part}
use Rattle.word.proofs.Part.{length-part}
use Rattle.snapshot.specs.Widths.{snapshot_size}
use Rattle.difference.specs.FirstDifference.{first_difference}
use Rattle.difference.proofs.Places.{same-bytes}
use Rattle.image.proofs.running.same_at.Goals as goal

pub returns : goal.returns
unfolding part
returns c =
    let args = c.args in
    let image : List ℕ = part args.image.now args.at snapshot_size in
    let long : args.at + snapshot_size - args.at ≡ snapshot_size = omega arith in
    let image-long : length image ≡ snapshot_size = length-part args.image.now args.at snapshot_size (omega arith) in
    let bytes-long : length args.bytes.now ≡ snapshot_size = c.told-bytes in
    ap (λ (k : ℕ). eqb k snapshot_size) (c.first_difference.ensures
    ∙ ap (λ (n : ℕ). first_difference (take n (drop args.at args.image.now)) args.bytes.now) long)
    ∙ ap (eqb (first_difference image args.bytes.now)) (sym image-long)
    ∙ sym (same-bytes image args.bytes.now (image-long ∙ sym bytes-long))
