-- Document 02, request 3: "the first place where they differ, the shorter's length exactly if there is none within it".
use Rattle.std.specs.Prelude.{cond, List, [], ◌∷◌, ℕ, suc, eqb}

-- the first place where two rows of bytes differ; the shorter's length if there is none within it
unfoldable pub first_difference : List ℕ → List ℕ → ℕ
first_difference [] b = 0
first_difference (x ∷ a) [] = 0
first_difference (x ∷ a) (y ∷ b) = cond (eqb x y) (suc (first_difference a b)) 0
