-- A comparison is true exactly where the bytes are equal.
use mathlib.Core.Path.{◌≡◌, refl, sym, ap, ap₂, ◌∙◌}
use mathlib.Core.Bool.{Bool, true, false, false≢true, and-eq-true_iff}
use mathlib.Core.List.{List, [], ◌∷◌}
use Prim.Native.Nat.{ℕ}
use lib.Dec.{eqb}
use borrow.Author.Tests.{eqb-true, eq-eqb}
use Rattle.word.specs.Same.{same_bytes}

pub same_bytes-true : (a b : List ℕ) → same_bytes a b ≡ true → a ≡ b
unfolding same_bytes
same_bytes-true [] [] e = refl
same_bytes-true [] (y ∷ ys) e = absurd (false≢true e)
same_bytes-true (x ∷ xs) [] e = absurd (false≢true e)
same_bytes-true (x ∷ xs) (y ∷ ys) e =
    let each = (and-eq-true_iff (eqb x y) (same_bytes xs ys)).0 e in
    ap₂ ◌∷◌ (eqb-true x y each.0) (same_bytes-true xs ys each.1)

pub same_bytes-refl : (a : List ℕ) → same_bytes a a ≡ true
unfolding same_bytes
same_bytes-refl [] = refl
same_bytes-refl (x ∷ xs) = (and-eq-true_iff (eqb x x) (same_bytes xs xs)).1 (eq-eqb x x refl, same_bytes-refl xs)

pub same_bytes-equal : (a b : List ℕ) → a ≡ b → same_bytes a b ≡ true
same_bytes-equal a b e = ap (same_bytes a) (sym e) ∙ same_bytes-refl a

pub same_bytes-other : (a b : List ℕ) → (a ≡ b → ⊥) → same_bytes a b ≡ false
same_bytes-other a b d = go (same_bytes a b) refl
  where
    go : (t : Bool) → same_bytes a b ≡ t → t ≡ false
    go true e = absurd (d (same_bytes-true a b e))
    go false e = refl
