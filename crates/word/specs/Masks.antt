-- Masks on a word, once over the width k. A word is a number below 2 ^ k.
use Rattle.std.specs.Prelude.{Bool, ℕ, ◌-◌, ◌/◌, ◌%◌, ◌^◌, eqb}
use Rattle.std.specs.Int.Bits.{bit_and, bit_or}

-- whether bit n of w is 1
unfoldable pub bit : ℕ → ℕ → Bool
bit w n = eqb (w / 2 ^ n % 2) 1

-- w with bit n at 1
unfoldable pub set_bit : ℕ → ℕ → ℕ
set_bit w n = bit_or w (2 ^ n)

-- w, of k bits, with bit n at 0
unfoldable pub clear_bit : ℕ → ℕ → ℕ → ℕ
clear_bit k w n = bit_and w (2 ^ k - 1 - 2 ^ n)

-- of k bits: those of new where the mask has a 1, those of old where it has a 0
unfoldable pub merge : ℕ → ℕ → ℕ → ℕ → ℕ
merge k mask new old = bit_or (bit_and new mask) (bit_and old (2 ^ k - 1 - mask))
