-- The inputs by number, which is the bit of each in the levels.
use Rattle.std.specs.Prelude.{ℕ}
use Rattle.counter.specs.declared.inputs.Input.{Input}
use Rattle.counter.specs.declared.inputs.Input.TheVariants.{A, B, Z, Hold}

abbrev pub number : Input → ℕ
number A = 0
number B = 1
number Z = 2
number Hold = 3
