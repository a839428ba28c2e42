-- Writes one after another, from the first number on, cover a row of as many numbers.
use mathlib.Core.Path.{◌≡◌, refl, ap, ◌∙◌}
use mathlib.Core.List.{List, [], ◌∷◌}
use Prim.Native.Nat.{ℕ, suc}
use native.Mathlib.Omega.{arith}
use lib.ListN.{length, set}

-- a row's numbers written over a list from index i on
unfoldable pub written : List ℕ → ℕ → List ℕ → List ℕ
written l i [] = l
written l i (x ∷ row) = written (set l i x) (suc i) row

past-first : (y : ℕ) (l : List ℕ) (i : ℕ) (row : List ℕ) → written (y ∷ l) (suc i) row ≡ y ∷ written l i row
unfolding written
past-first y l i [] = refl
past-first y l i (x ∷ row) = past-first y (set l i x) (suc i) row

pub all-written : (row l : List ℕ) → length l ≡ length row → written l 0 row ≡ row
unfolding written
all-written [] [] e = refl
all-written [] (y ∷ l) e = absurd (omega arith)
all-written (x ∷ row) [] e = absurd (omega arith)
all-written (x ∷ row) (y ∷ l) e = past-first x l 0 row ∙ ap (λ (rest : List ℕ). x ∷ rest) (all-written row l (omega arith))
