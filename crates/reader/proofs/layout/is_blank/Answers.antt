-- `reader::layout::is_blank` meets its contract: the part is compared with as many zeros.
use mathlib.Core.Path.{◌≡◌, ap, ap₂, ◌∙◌}
use Prim.Native.Nat.{ℕ, ◌+◌, ◌-◌}
use native.Mathlib.Omega.{arith}
use lib.ListN.{take, drop}
use Rattle.word.specs.Part.{part}
use Rattle.word.specs.Same.{same_bytes}
use Rattle.reader.specs.WellFormed.{blank}
use Rattle.reader.proofs.Padded.{front-zeros}
use Rattle.reader.proofs.layout.is_blank.Goals as goal

pub returns : goal.returns
unfolding blank part
returns c =
    let a = c.args in
    let long : a.at + a.n - a.at ≡ a.n = omega arith in
    c.same.ensures
    ∙ ap₂ same_bytes (ap (λ (n : ℕ). take n (drop a.at a.bytes.now)) long) (front-zeros (a.n - 0) a.n 116 (omega arith) (omega (arith, c.requires)))
