-- Little-endian numbers, once over the count of bytes.
use Rattle.std.specs.Prelude.{◌≡◌, refl, List, [], ◌∷◌, ℕ, zero, suc, ◌+◌, ◌*◌, ◌/◌, ◌%◌, ◌^◌, ◌<◌}
use Rattle.std.specs.Int.{Width}
use Rattle.std.proofs.Common.{Fits}
use Rattle.word.specs.Part.{part}

-- the k bytes of v, the lowest first
unfoldable pub to_bytes : ℕ → ℕ → List ℕ
to_bytes zero v = []
to_bytes (suc k) v = v % 256 ∷ to_bytes k (v / 256)

-- the number that the bytes stand for
unfoldable pub of_bytes : List ℕ → ℕ
of_bytes [] = 0
of_bytes (b ∷ bs) = b + 256 * of_bytes bs

-- the number in the k bytes from byte at
abbrev pub number_at : List ℕ → ℕ → ℕ → ℕ
number_at s at k = of_bytes (part s at k)

-- an unsigned number's bits are the number
abbrev pub itself : ℕ → ℕ
itself n = n

pub same-bits-back : (k n : ℕ) → n < 256 ^ k → itself (itself n) ≡ n
same-bits-back k n h = refl

pub same-number-back : (w : Width) (n : ℕ) → Fits w n → itself (itself n) ≡ n
same-number-back w n h = refl
