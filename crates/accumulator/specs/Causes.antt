-- Document 01, "One input sample": the causes of interrupts by number; 0 is none.
use Rattle.std.specs.Prelude.{◌≡◌, ◌≢◌, ℕ, Option, Some, None, Result, MatchResult}
use Rattle.accumulator.specs.declared.cause.Cause.{Cause}
use Rattle.accumulator.specs.declared.cause.Cause.TheVariants.{LowPreset, HighPreset, Underflow, Overflow}
use Rattle.accumulator.specs.declared.cause.NoCause.{NoCause}

abbrev pub low_preset : ℕ
low_preset = 1

abbrev pub high_preset : ℕ
high_preset = 2

abbrev pub underflow : ℕ
underflow = 3

abbrev pub overflow : ℕ
overflow = 4

-- the causes are the numbers from 1 to this
abbrev pub cause_count : ℕ
cause_count = 4

-- ---- the number of each cause, and 0 for none

abbrev pub number : Cause → ℕ
number LowPreset = low_preset
number HighPreset = high_preset
number Underflow = underflow
number Overflow = overflow

abbrev pub cause_number : Option Cause → ℕ
cause_number (Some cause) = number cause
cause_number None = 0

-- the cause with this number, or the number, which no cause has
abbrev pub Names : ℕ → Result Cause NoCause → Type 0
Names n r = MatchResult r (λ cause. number cause ≡ n) (λ e. (e.0 ≡ n) × ((cause : Cause) → number cause ≢ n))
