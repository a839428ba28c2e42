-- Laws of the first difference: what it is, and how far bytes and blocks that are the same take one.
use mathlib.Core.Path.{◌≡◌, sym, ap, subst, ◌∙◌}
use mathlib.Core.Logic.{◌⊎◌, inl, inr, ◌↔◌}
use mathlib.Core.Bool.{true, false, false≢true}
use mathlib.Core.List.{List, [], ◌∷◌}
use Prim.Native.Nat.{ℕ, zero, suc, ◌+◌, ◌-◌, ◌≤◌, ◌<◌, min, zero-le}
use native.Mathlib.Nat.{zero-add, lt_of_not-le}
use native.Mathlib.Omega.{arith}
use borrow.Author.Tests.{eq-eqb, eqb-true, eqb-false}
use lib.Dec.{eqb}
use lib.ListN.{length, get_or}
use lib.Seq.{ext_get_or}
use Rattle.word.specs.Part.{part}
use Rattle.word.specs.Same.{same_bytes}
use Rattle.word.proofs.Branches.{cond-cases, agree}
use Rattle.word.proofs.Part.{length-part, get_or-part}
use Rattle.word.proofs.Same.{same_bytes-true, same_bytes-equal}
use Rattle.difference.specs.FirstDifference.{first_difference}

-- it lies within the shorter, or at its end
pub difference-within : (a b : List ℕ) → first_difference a b ≤ min (length a) (length b)
unfolding first_difference
difference-within [] b = omega arith
difference-within (x ∷ a) [] = omega arith
difference-within (x ∷ a) (y ∷ b) =
    let rest : first_difference a b ≤ min (length a) (length b) = difference-within a b in
    cond-cases (λ (n : ℕ). n ≤ min (suc (length a)) (suc (length b))) (eqb x y) _ _ (λ e. omega arith) (λ e. omega arith)

-- the bytes below it are the same
pub same-below : (a b : List ℕ) (i : ℕ) → i < first_difference a b → get_or a i 0 ≡ get_or b i 0
unfolding first_difference
same-below [] b i h = absurd (omega arith)
same-below (x ∷ a) [] i h = absurd (omega arith)
same-below (x ∷ a) (y ∷ b) zero h =
    cond-cases (λ (n : ℕ). 0 < n → x ≡ y) (eqb x y) _ _ (λ e l. eqb-true x y e) (λ e l. absurd (omega arith)) h
same-below (x ∷ a) (y ∷ b) (suc i) h =
    cond-cases (λ (n : ℕ). suc i < n → get_or a i 0 ≡ get_or b i 0) (eqb x y) _ _
    (λ e l. same-below a b i (omega arith)) (λ e l. absurd (omega arith)) h

-- within the shorter, the bytes at it differ
pub differ-there : (a b : List ℕ) → first_difference a b < min (length a) (length b)
    → get_or a (first_difference a b) 0 ≡ get_or b (first_difference a b) 0 → ⊥
unfolding first_difference
differ-there [] b h e = omega arith
differ-there (x ∷ a) [] h e = omega arith
differ-there (x ∷ a) (y ∷ b) h e =
    cond-cases (λ (n : ℕ). n < min (suc (length a)) (suc (length b)) → get_or (x ∷ a) n 0 ≡ get_or (y ∷ b) n 0 → ⊥) (eqb x y) _ _
    (λ t l. differ-there a b (omega arith)) (λ t l. eqb-false x y t) h e

module _ (a b : List ℕ) where
  -- ---- a place that does not pass it

  module _ (i : ℕ) (passed : i ≤ first_difference a b) where
    -- so many bytes that are the same
    further : (n : ℕ) → i + n ≤ min (length a) (length b) → ((k : ℕ) → k < n → get_or a (i + k) 0 ≡ get_or b (i + k) 0) → i + n ≤ first_difference a b
    further n h same =
        let not_within : i + n < suc (first_difference a b) = lt_of_not-le (λ l. differ-there a b (omega arith) (there (omega arith))) in
        omega arith
      where
        there : first_difference a b < i + n → get_or a (first_difference a b) 0 ≡ get_or b (first_difference a b) 0
        there l =
            let place : i + (first_difference a b - i) ≡ first_difference a b = omega arith in
            subst (λ (p : ℕ). get_or a p 0 ≡ get_or b p 0) place (same (first_difference a b - i) (omega arith))

    -- a byte that is the same
    pub next-same : i < min (length a) (length b) → get_or a i 0 ≡ get_or b i 0 → i + 1 ≤ first_difference a b
    next-same h e = further 1 (omega arith) (λ k l. let at : i + k ≡ i = omega arith in rw at e)

    -- one that differs
    pub here-differs : (get_or a i 0 ≡ get_or b i 0 → ⊥) → i ≡ first_difference a b
    here-differs d =
        let not-before : first_difference a b < suc i = lt_of_not-le (λ l. d (same-below a b i (omega arith))) in
        omega arith

    module _ (n : ℕ) (within : i + n ≤ min (length a) (length b)) where
      -- a block that is the same
      pub block-same : same_bytes (part a i n) (part b i n) ≡ true → i + n ≤ first_difference a b
      block-same e = further n within
          (λ k l. sym (get_or-part a i n k 0 l) ∙ ap (λ (x : List ℕ). get_or x k 0) (same_bytes-true (part a i n) (part b i n) e) ∙ get_or-part b i n k 0 l)

      -- one that differs
      pub block-differs : same_bytes (part a i n) (part b i n) ≡ false → first_difference a b < i + n
      block-differs e = lt_of_not-le (λ far. false≢true (sym e ∙ same_bytes-equal (part a i n) (part b i n) (alike far)))
        where
          alike : i + n ≤ first_difference a b → part a i n ≡ part b i n
          alike far =
              let long : length (part a i n) ≡ n = length-part a i n (omega arith) in
              ext_get_or 0 (part a i n) (part b i n) (long ∙ sym (length-part b i n (omega arith)))
              (λ k h. let inside : k < n = omega arith in
              get_or-part a i n k 0 inside ∙ same-below a b (i + k) (omega arith) ∙ sym (get_or-part b i n k 0 inside))

  -- ---- from the first byte on

  -- up to where the bytes are the same, it is not passed
  reached : (n : ℕ) → n ≤ min (length a) (length b) → ((k : ℕ) → k < n → get_or a k 0 ≡ get_or b k 0) → n ≤ first_difference a b
  reached n h same = omega (arith, further 0 zero-le n (omega arith) (λ k l. rw zero-add (same k l)))

  -- it is the shorter's length exactly if no byte within that differs
  pub none-differs : (first_difference a b ≡ min (length a) (length b))
      ↔ ((i : ℕ) → i < min (length a) (length b) → get_or a i 0 ≡ get_or b i 0)
  none-differs = (
    λ e i h. same-below a b i (omega arith),
    λ same. omega (arith, difference-within a b, reached (min (length a) (length b)) (omega arith) same),
  )

  -- no other place is such
  pub difference-only : (i : ℕ) → i ≤ min (length a) (length b) → ((k : ℕ) → k < i → get_or a k 0 ≡ get_or b k 0)
      → (i ≡ min (length a) (length b)) ⊎ (get_or a i 0 ≡ get_or b i 0 → ⊥)
      → i ≡ first_difference a b
  difference-only i h same (inl e) = omega (arith, reached i h same, difference-within a b)
  difference-only i h same (inr d) = here-differs i (reached i h same) d

  -- bytes of one length are the same exactly if it is that length
  pub same-bytes : length a ≡ length b → same_bytes a b ≡ eqb (first_difference a b) (length a)
  same-bytes long = agree (same_bytes a b) (eqb (first_difference a b) (length a))
      (λ e. eq-eqb (first_difference a b) (length a) (omega (arith, difference-within a b, whole (same_bytes-true a b e))))
      (λ e. let all : first_difference a b ≡ length a = eqb-true (first_difference a b) (length a) e in
      same_bytes-equal a b (ext_get_or 0 a b long (λ i h. same-below a b i (omega arith))))
    where
      whole : a ≡ b → length a ≤ first_difference a b
      whole p = reached (length a) (omega arith) (λ k h. ap (λ (l : List ℕ). get_or l k 0) p)
