-- `report::text::Text::push_hexadecimal` meets its contract: a number that the width holds takes the width.
use mathlib.Core.Path.{◌≡◌, ap, ◌∙◌}
use mathlib.Core.List.{List, ◌++◌}
use Prim.Native.Nat.{ℕ, ◌^◌, ◌≤◌, ◌<◌, min, max}
use native.Mathlib.Omega.{arith}
use lib.ListN.{length}
use Rattle.io.specs.Digits.{last_digits, IsDigitCount}
use Rattle.report.specs.Line.{hexadecimal}
use Rattle.report.proofs.Digits.{length-digits, hex-fewest}
use Rattle.report.proofs.text.Text.push_hexadecimal.Goals as goal

-- the digits that are written
written : (width n k : ℕ) (digits : List ℕ) → 1 ≤ width → width ≤ 16 → n < 16 ^ width → IsDigitCount 16 (min (max width 1) 16) n k → digits ≡ last_digits 16 k n
    → digits ≡ hexadecimal width n
written width n k digits one most fits count e =
    let least : min (max width 1) 16 ≡ width = omega arith in
    e ∙ ap (λ (j : ℕ). last_digits 16 j n) (hex-fewest width n k fits (rw least at count))

pub push-requires : goal.push-requires
push-requires c =
    let a = c.args in
    let d = c.requires.digits in
    let text = written a.width a.n c.hex-k.result _ d.0 d.1 d.2 c.hex-k.ensures.len c.hex-k.ensures.digits in
    omega (arith, c.requires.room, ap length text, length-digits 16 a.width a.n)

pub returns-clause-text : goal.returns-clause-text
returns-clause-text c =
    let a = c.args in
    let d = c.requires.digits in
    c.push.ensures.text
    ∙ ap (λ (l : List ℕ). a.self.now ++ l) (written a.width a.n c.hex-k.result _ d.0 d.1 d.2 c.hex-k.ensures.len c.hex-k.ensures.digits)

pub returns-clause-grown : goal.returns-clause-grown
returns-clause-grown c =
    let a = c.args in
    let d = c.requires.digits in
    let text = written a.width a.n c.hex-k.result _ d.0 d.1 d.2 c.hex-k.ensures.len c.hex-k.ensures.digits in
    omega (arith, c.push.ensures.grown, ap length text, length-digits 16 a.width a.n)
