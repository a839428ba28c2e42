-- Two's complement, once over the width: the language's own reading of the bits of a signed number.
use Rattle.std.specs.Prelude.{◌≡◌, Bool, false, ℕ, ◌<◌, ◌^◌, eqb, ℤ, pos, negsuc}
use Rattle.std.specs.Int.{Width, w16, w32}
use Rattle.std.proofs.Common.{SFits, to_z, of_z}
use mir.Facts.{of_z-to_z, to_z-of_z}

-- the number that the bits n stand for: n itself in the lower half, n - 2 ^ w in the upper
abbrev pub signed : Width → ℕ → ℤ
signed = to_z

-- the bits of z: z itself where it is not negative, 2 ^ w + z where it is
abbrev pub unsigned : Width → ℤ → ℕ
unsigned = of_z

-- whether two signed numbers are the same; `lt_z` and `le_z` of the library are the tests of their order
abbrev pub eq_z : ℤ → ℤ → Bool
eq_z (pos a) (pos b) = eqb a b
eq_z (pos a) (negsuc b) = false
eq_z (negsuc a) (pos b) = false
eq_z (negsuc a) (negsuc b) = eqb a b

-- both round trips
pub bytes-back_16 : (n : ℕ) → n < 256 ^ 2 → unsigned w16 (signed w16 n) ≡ n
bytes-back_16 n h = of_z-to_z {w = w16} (record { fits = h })

pub bytes-back_32 : (n : ℕ) → n < 256 ^ 4 → unsigned w32 (signed w32 n) ≡ n
bytes-back_32 n h = of_z-to_z {w = w32} (record { fits = h })

pub number-back : (w : Width) (z : ℤ) → SFits w z → signed w (unsigned w z) ≡ z
number-back w z h = to_z-of_z h
