-- The number of each mode, as the definitions have it, with 8 for none.
use Rattle.std.specs.Prelude.{◌≡◌, ℕ, ℤ, Option, Some, None, Result, MatchResult}
use Rattle.counter.specs.declared.mode.Mode.{Mode}
use Rattle.counter.specs.declared.mode.Mode.TheVariants.{Up, UpReset, Direction, DirectionReset, UpDown, UpDownReset, Quadrature, QuadratureReset}
use Rattle.counter.specs.declared.mode.NoMode.{NoMode}
use Rattle.counter.specs.Parts.{mode_of}

abbrev pub number : Mode → ℕ
number Up = 0
number UpReset = 1
number Direction = 2
number DirectionReset = 3
number UpDown = 4
number UpDownReset = 5
number Quadrature = 6
number QuadratureReset = 7

abbrev pub mode_number : Option Mode → ℕ
mode_number (Some mode) = number mode
mode_number None = 8

-- the mode with this number, or the number, which is no mode's
abbrev pub IsMode : ℤ → Result Mode NoMode → Type 0
IsMode z r = MatchResult r (λ mode. number mode ≡ mode_of z) (λ e. (e.0 ≡ z) × (mode_of z ≡ 8))
