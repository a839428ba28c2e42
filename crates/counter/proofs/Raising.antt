-- No cause raises nothing: the outputs stay, and 0 has no mask. And a number that is no cause's is shown by no flag.
use mathlib.Core.Path.{◌≡◌, sym}
use Prim.Native.Nat.{ℕ}
use borrow.Author.Tests.{ne_eqb}
use Rattle.accumulator.specs.declared.cause.Cause.{Cause}
use Rattle.accumulator.specs.declared.cause.Cause.TheVariants.{LowPreset, HighPreset, Underflow, Overflow}
use Rattle.accumulator.specs.Causes.{low_preset, high_preset, underflow, overflow, number}
use mathlib.Core.Bool.{◌&&◌, and-false}
use Rattle.word.specs.Masks.{bit}
use Rattle.counter.specs.declared.state.Counter.{Counter}
use Rattle.counter.specs.Parts.{FE, UIE}
use Rattle.counter.specs.Interrupts.{cause_word, unmasked, enabled, quiet, started, raise}

pub raise-none : (c : Counter) → raise 0 c ≡ c
unfolding raise enabled unmasked cause_word
raise-none c = rw (and-false (bit c.flags FE && bit c.flags UIE))

-- a number that is no cause's raises nothing
pub raise-other : (n : ℕ) → ((cause : Cause) → number cause ≡ n → ⊥) → (c : Counter) → raise n c ≡ c
unfolding raise enabled unmasked cause_word
raise-other n h c =
    rw (
      ne_eqb n low_preset (λ e. h LowPreset (sym e)),
      ne_eqb n high_preset (λ e. h HighPreset (sym e)),
      ne_eqb n underflow (λ e. h Underflow (sym e)),
      ne_eqb n overflow (λ e. h Overflow (sym e)),
      and-false (bit c.flags FE && bit c.flags UIE),
    )

-- a number that is no cause's shows none
pub started-none : (n flags : ℕ) → ((cause : Cause) → number cause ≡ n → ⊥) → started n flags ≡ quiet flags
unfolding started
started-none n flags h =
    rw (
      ne_eqb n low_preset (λ e. h LowPreset (sym e)),
      ne_eqb n high_preset (λ e. h HighPreset (sym e)),
      ne_eqb n underflow (λ e. h Underflow (sym e)),
      ne_eqb n overflow (λ e. h Overflow (sym e)),
    )
