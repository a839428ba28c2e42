-- What is claimed of the first difference of two parts of bytes (document 02, request 3): each statement whole, proved by naming the law that
-- stands in another crate's `proofs/`. The contract of the call from C is in `Claims`, with those of the others.
use mathlib.Core.Path.{◌≡◌, refl}
use mathlib.Core.Logic.{◌⊎◌, ◌↔◌}
use mathlib.Core.List.{List}
use Prim.Native.Nat.{ℕ, ◌≤◌, ◌<◌, min}
use lib.Dec.{eqb}
use lib.ListN.{length, get_or}
use denote.Ref.{Bor}
use Rattle.word.specs.Same.{same_bytes}
use Rattle.difference.specs.FirstDifference.{first_difference}
use Rattle.difference.proofs as difference

-- the function that mending and C both call: it asks nothing, and answers the definition
pub first-difference-met : {M : Type 1} → difference.first_difference.Statement.statement M
first-difference-met = difference.first_difference.Met.met

pub first-difference : (κs : _) (first first' second second' : Bor (List ℕ)) (r : ℕ)
    → (difference.first_difference.Reads.Asked κs (first, (second, tt)) ≡ Unit)
    × (difference.first_difference.Reads.Learnt κs (first, (second, tt)) r (first', (second', tt))
    ≡ (r ≡ first_difference first.now second.now))
first-difference κs first first' second second' r = (refl, refl)

module _ (first second : List ℕ) where
  -- it is not past the shorter's length
  pub difference-within : first_difference first second ≤ min (length first) (length second)
  difference-within = difference.Places.difference-within first second

  -- below it all bytes are equal
  pub same-below : (i : ℕ) → i < first_difference first second → get_or first i 0 ≡ get_or second i 0
  same-below = difference.Places.same-below first second

  -- at it they differ, unless it is the shorter's length
  pub differ-there : first_difference first second < min (length first) (length second)
      → get_or first (first_difference first second) 0 ≡ get_or second (first_difference first second) 0 → ⊥
  differ-there = difference.Places.differ-there first second

  -- it is the shorter's length exactly if there is no difference within it
  pub none-differs : (first_difference first second ≡ min (length first) (length second))
      ↔ ((i : ℕ) → i < min (length first) (length second) → get_or first i 0 ≡ get_or second i 0)
  none-differs = difference.Places.none-differs first second

  -- no other place is such
  pub difference-only : (i : ℕ) → i ≤ min (length first) (length second) → ((k : ℕ) → k < i → get_or first k 0 ≡ get_or second k 0)
      → (i ≡ min (length first) (length second)) ⊎ (get_or first i 0 ≡ get_or second i 0 → ⊥)
      → i ≡ first_difference first second
  difference-only = difference.Places.difference-only first second

  -- "the same bytes" of mending's definition: of two of one length the first difference is that length
  pub same-bytes : length first ≡ length second → same_bytes first second ≡ eqb (first_difference first second) (length first)
  same-bytes = difference.Places.same-bytes first second
