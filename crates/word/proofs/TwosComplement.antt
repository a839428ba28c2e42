-- Laws of two's complement, once over the width: both round trips and the bounds.
use mathlib.Core.Path.{◌≡◌, ap, ◌∙◌}
use Prim.Native.Nat.{ℕ, ◌-◌, ◌≤◌}
use native.Mathlib.Omega.{arith}
use lib.IntN.{ℤ}
use mir.Syntax.{Width}
use mir.Val.{Fits, SFits}
use mir.Facts.{to_z-of_z, of_z-to_z, sfits_to_z, Fits-of_z}
use Rattle.word.specs.TwosComplement.{signed, unsigned}

-- ---- round trips and bounds

pub signed-unsigned : {w : Width} {z : ℤ} → SFits w z → signed w (unsigned w z) ≡ z
signed-unsigned = to_z-of_z

pub unsigned-signed : {w : Width} {n : ℕ} → Fits w n → unsigned w (signed w n) ≡ n
unsigned-signed = of_z-to_z

pub sfits-signed : {w : Width} {n : ℕ} → Fits w n → SFits w (signed w n)
sfits-signed = sfits_to_z

pub fits-unsigned : {w : Width} {z : ℤ} → SFits w z → Fits w (unsigned w z)
fits-unsigned = Fits-of_z

-- a signed number that a call answered, as its caller sees it: read from its bits
pub signed-read : (w : Width) {z v : ℤ} → SFits w z → z ≡ v → signed w (unsigned w z) ≡ v
signed-read w f e = signed-unsigned f ∙ e

-- the bits of a signed number as a callee is handed it: read from its bits
abbrev pub handed : Width → ℤ → ℕ
handed w z = unsigned w (signed w (unsigned w z))

pub bits-back : (w : Width) {z : ℤ} → SFits w z → handed w z ≡ unsigned w z
bits-back w f = ap (unsigned w) (signed-unsigned f)

-- ---- complement

-- from m down twice
pub signed-back : (w : Width) (m n : ℕ) → n ≤ m → signed w (m - (m - n)) ≡ signed w n
signed-back w m n h =
    let e : m - (m - n) ≡ n = omega arith in
    ap (signed w) e
