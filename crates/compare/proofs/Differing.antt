-- Laws of the places where two traces differ, in the code's `i + 1`: one iteration of a pass over them, and its end.
use mathlib.Core.Path.{◌≡◌, refl, sym, ap, ◌∙◌}
use mathlib.Core.Bool.{true, false}
use mathlib.Core.List.{List, [], ◌∷◌}
use Prim.Native.Nat.{ℕ, suc, ◌+◌, ◌-◌, ◌<◌, ◌≤◌}
use native.Mathlib.Decide.{dec_lt}
use native.Mathlib.Numerals.{add-one}
use native.Mathlib.Omega.{arith}
use lib.ListN.{length, set}
use Rattle.word.specs.Part.{put}
use Rattle.word.proofs.Put.{put-nil, put-next}
use Rattle.compare.specs.Places.{same_at, differing}

pub empty : (l : List ℕ) → length l ≡ 0 → l ≡ []
empty [] e = refl
empty (x ∷ l) e = absurd (omega arith)

module _ (first second : List ℕ) (count : ℕ) where
  -- of the first count places, those from i on that differ
  abbrev pub from : ℕ → List ℕ
  from i = differing first second i (count - i)

  pub from-first : from 0 ≡ differing first second 0 count
  from-first = ap (differing first second 0) (omega arith)

  from-last : (i : ℕ) → count ≤ i → from i ≡ []
  unfolding differing
  from-last i h = let none : count - i ≡ 0 = omega arith in rw none

  module _ (i : ℕ) (h : i < count) where
    more : count - i ≡ suc (count - (i + 1))
    more = omega arith

    from-same : same_at first second i ≡ true → from i ≡ from (i + 1)
    unfolding differing
    from-same e = rw (more, e, add-one i)

    from-other : same_at first second i ≡ false → from i ≡ i ∷ from (i + 1)
    unfolding differing
    from-other e = rw (more, e, add-one i)

  -- ---- n are counted, and those from i on are left

  module _ (n i total : ℕ) (e : n + length (from i) ≡ total) where
    pub count-same : i < count → same_at first second i ≡ true → n + length (from (i + 1)) ≡ total
    count-same h same = omega (arith, e, ap length (from-same i h same))

    pub count-other : i < count → same_at first second i ≡ false → n + 1 + length (from (i + 1)) ≡ total
    count-other h other = omega (arith, e, ap length (from-other i h other))

    pub count-end : count ≤ i → n ≡ total
    count-end h = omega (arith, e, ap length (from-last i h))

    -- where one is left, place i is within the traces
    pub count-some : n < total → i < count
    count-some h = go (dec_lt i count)
      where
        go : Dec (i < count) → i < count
        go (yes l) = l
        go (no l) = absurd (omega (arith, h, count-end (omega arith)))

  -- ---- those before i are written, k of them, and those from i on are left

  module _ (row : List ℕ) (k i : ℕ) (goal : List ℕ) (e : put row k (from i) ≡ goal) where
    pub write-same : i < count → same_at first second i ≡ true → put row k (from (i + 1)) ≡ goal
    write-same h same = sym (ap (put row k) (from-same i h same)) ∙ e

    pub write-other : i < count → same_at first second i ≡ false → k < length row → put (set row k i) (k + 1) (from (i + 1)) ≡ goal
    write-other h other room = put-next row k i (from (i + 1)) room ∙ sym (ap (put row k) (from-other i h other)) ∙ e

    pub write-end : length (from i) ≡ 0 → row ≡ goal
    write-end none = sym (ap (put row k) (empty (from i) none) ∙ put-nil row k) ∙ e
