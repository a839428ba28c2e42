-- Parts of a list: the elements from an offset, and the list with other elements there.
use Rattle.std.specs.Prelude.{List, ◌++◌, ℕ, ◌+◌, ◌<◌, length, take, drop, get_or}

-- every element is a byte
abbrev pub Bytes : List ℕ → Type 0
Bytes l = (i : ℕ) → get_or l i 0 < 256

module _ {A : Type 0} where
  -- the n elements of l from offset at
  unfoldable pub part : List A → ℕ → ℕ → List A
  part l at n = take n (drop at l)

  -- l with bs over the elements from offset at; every other element as it was
  unfoldable pub put : List A → ℕ → List A → List A
  put l at bs = take at l ++ (bs ++ drop (at + length bs) l)
