-- Document 01, "One input sample": one count up or down, ACC after it and the cause that it raises.
use Rattle.std.specs.Prelude.{Bool, cond, ℕ, ℤ, pos, ◌+ℤ◌, ◌-ℤ◌}
use Rattle.std.specs.Int.Signed.{le_z}
use Rattle.word.specs.TwosComplement.{eq_z}
use Rattle.accumulator.specs.declared.Counted as code
use Rattle.accumulator.specs.Causes.{low_preset, high_preset, underflow, overflow, cause_number}

-- ACC after a count, and the number of the cause that it raises, 0 for none
pub record Counted : Type 0 where
  pub acc : ℤ
  pub cause : ℕ

-- what code answers
abbrev pub counted_of : code.Counted → Counted
counted_of r = record { acc = r.acc; cause = cause_number r.cause }

abbrev pub counted : ℤ → ℕ → Counted
counted acc cause = record { acc = acc; cause = cause }

-- ACC >= OVF: ACC becomes UNF (0 in modes 0, 1), cause 4. Else ACC + 1; if that equals HIP, cause 2, and in modes 0, 1 ACC becomes 0.
unfoldable pub up : Bool → ℤ → ℤ → ℤ → ℤ → Counted
up single acc hip ovf unf =
    cond (le_z ovf acc) (cond single (counted (pos 0) overflow) (counted unf overflow))
    (cond (eq_z (acc +ℤ pos 1) hip) (cond single (counted (pos 0) high_preset) (counted (acc +ℤ pos 1) high_preset)) (counted (acc +ℤ pos 1) 0))

-- ACC <= UNF: ACC becomes OVF, cause 3. Else ACC - 1; if that equals LOP, cause 1.
unfoldable pub down : ℤ → ℤ → ℤ → ℤ → Counted
down acc lop ovf unf =
    cond (le_z acc unf) (counted ovf underflow) (cond (eq_z (acc -ℤ pos 1) lop) (counted (acc -ℤ pos 1) low_preset) (counted (acc -ℤ pos 1) 0))
