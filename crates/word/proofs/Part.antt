-- Laws of `part`: its length, a part after a write, a part of a part, and bytes.
use mathlib.Core.Path.{◌≡◌, sym, ap, ◌∙◌}
use mathlib.Core.List.{List, [], ◌∷◌, ◌++◌, append_assoc, append-nil}
use Prim.Native.Nat.{ℕ, zero, suc, ◌+◌, ◌-◌, ◌≤◌, ◌<◌}
use native.Mathlib.Nat.{zero-add, suc-add, le_refl, le_trans, le_of_eq, le-add_right}
use native.Mathlib.Omega.{arith}
use lib.Dec.{lit<}
use lib.ListN.{length, get_or, take, drop, length-append, length-drop, take-append-drop, drop_of_length-le}
use lib.Seq.{length-take-le, take-append-le, take-append_seam, drop-append-le, drop-append-add, drop_at, take_at, drop-cons}
use lib.Seq.{take-take, take-nil, drop-drop, get_or-take, get_or-drop, take_all}
use Rattle.word.specs.Part.{Bytes, part, put}

module _ {A : Type 0} where
  -- ---- length

  pub length-part : (l : List A) (at n : ℕ) → at + n ≤ length l → length (part l at n) ≡ n
  unfolding part
  length-part l at n h = length-take-le n (drop at l) (simp length-drop (omega arith))

  pub length-put : (l : List A) (at : ℕ) (bs : List A) → at + length bs ≤ length l → length (put l at bs) ≡ length l
  unfolding put
  length-put l at bs h = simp (length-append, length-drop, length-take-le at l (le_trans (le-add_right at (length bs)) h)) (omega arith)

  -- ---- before and after a write

  -- before the write, all is as it was
  pub take-put : (l : List A) (at : ℕ) (bs : List A) (n : ℕ) → n ≤ at → at ≤ length l → take n (put l at bs) ≡ take n l
  unfolding put
  take-put l at bs n h k =
      take-append-le n (take at l) (bs ++ drop (at + length bs) l) (rw (length-take-le at l k) h) ∙ take-take n at l h

  -- up to the end of what was written
  pub take-put-end : (l : List A) (at : ℕ) (bs : List A) → at ≤ length l → take (at + length bs) (put l at bs) ≡ take at l ++ bs
  unfolding put
  take-put-end l at bs h =
      let front : length (take at l ++ bs) ≡ at + length bs =
      length-append (take at l) bs ∙ ap (λ (m : ℕ). m + length bs) (length-take-le at l h) in
      ap (take (at + length bs)) (sym (append_assoc (take at l) bs (drop (at + length bs) l)))
      ∙ take_at (take at l ++ bs) (drop (at + length bs) l) (at + length bs) front

  -- past the write, all is as it was
  pub drop-put : (l : List A) (at : ℕ) (bs : List A) (n : ℕ) → at + length bs ≤ n → at ≤ length l → drop n (put l at bs) ≡ drop n l
  unfolding put
  drop-put l at bs n h k =
      let a : List A = take at l ++ bs in
      let e : length a ≡ at + length bs = length-append (take at l) bs ∙ ap (λ (m : ℕ). m + length bs) (length-take-le at l k) in
      let past : n ≡ length a + (n - length a) = omega arith in
      let rest : at + length bs + (n - length a) ≡ n = omega arith in
      ap (drop n) (sym (append_assoc (take at l) bs (drop (at + length bs) l)))
      ∙ ap (λ (m : ℕ). drop m (a ++ drop (at + length bs) l)) past
      ∙ drop-append-add a (drop (at + length bs) l) (n - length a)
      ∙ drop-drop (n - length a) (at + length bs) l
      ∙ ap (λ (m : ℕ). drop m l) rest

  -- ---- a part after a write

  -- where it was written
  pub part-put : (l : List A) (at : ℕ) (bs : List A) → at ≤ length l → part (put l at bs) at (length bs) ≡ bs
  unfolding part put
  part-put l at bs h =
      ap (take (length bs)) (drop_at (take at l) (bs ++ drop (at + length bs) l) at (length-take-le at l h))
      ∙ take-append_seam bs (drop (at + length bs) l)

  -- a part of the first `at` elements is a part of the whole
  drop-take : (k m : ℕ) (l : List A) → drop k (take (k + m) l) ≡ take m (drop k l)
  drop-take zero m l = rw zero-add
  drop-take (suc k) m [] = rw (suc-add, take-nil m)
  drop-take (suc k) m (x ∷ xs) = rw suc-add (drop-take k m xs)

  pub part-take : (l : List A) (at k n : ℕ) → k + n ≤ at → part (take at l) k n ≡ part l k n
  unfolding part
  part-take l at k n h =
      sym (drop-take k n (take at l)) ∙ ap (drop k) (take-take (k + n) at l h) ∙ drop-take k n l

  -- the front and the rest of a part
  pub take-part : (l : List A) (at k m : ℕ) → take k (part l at (k + m)) ≡ part l at k
  unfolding part
  take-part l at k m = take-take k (k + m) (drop at l) (le-add_right k m)

  pub drop-part : (l : List A) (at k m : ℕ) → drop k (part l at (k + m)) ≡ part l (at + k) m
  unfolding part
  drop-part l at k m = drop-take k m (drop at l) ∙ ap (take m) (drop-drop k at l)

  -- before it
  pub part-put-before : (l : List A) (at : ℕ) (bs : List A) (k n : ℕ) → k + n ≤ at → at ≤ length l → part (put l at bs) k n ≡ part l k n
  part-put-before l at bs k n h b =
      sym (part-take (put l at bs) at k n h)
      ∙ ap (λ (m : List A). part m k n) (take-put l at bs at (le_refl at) b)
      ∙ part-take l at k n h

  -- past it
  pub part-put-past : (l : List A) (at : ℕ) (bs : List A) (k n : ℕ) → at + length bs ≤ k → at ≤ length l → part (put l at bs) k n ≡ part l k n
  unfolding part
  part-put-past l at bs k n h b = ap (take n) (drop-put l at bs k h b)

  -- a part that is written back changes nothing
  pub put-part : (l : List A) (at n : ℕ) → at + n ≤ length l → put l at (part l at n) ≡ l
  unfolding part put
  put-part l at n h =
      let e : length (take n (drop at l)) ≡ n = length-part l at n h in
      ap (λ (m : ℕ). take at l ++ (take n (drop at l) ++ drop (at + m) l)) e
      ∙ ap (λ (r : List A). take at l ++ (take n (drop at l) ++ r)) (sym (drop-drop n at l))
      ∙ ap (λ (r : List A). take at l ++ r) (take-append-drop n (drop at l))
      ∙ take-append-drop at l

  -- ---- the whole of a list

  pub part-whole : (l : List A) (n : ℕ) → length l ≡ n → part l 0 n ≡ l
  unfolding part
  part-whole l n e = take_all n l (le_of_eq e)

  pub put-whole : (l bs : List A) → length l ≡ length bs → put l 0 bs ≡ bs
  unfolding put
  put-whole l bs e = rw (zero-add, drop_of_length-le l (le_of_eq e), append-nil)

  -- ---- a part

  -- a part that lies in the first of two lists
  pub part-append : (a b : List A) (k n : ℕ) → k + n ≤ length a → part (a ++ b) k n ≡ part a k n
  unfolding part
  part-append a b k n h =
      ap (take n) (drop-append-le k a b (le_trans (le-add_right k n) h))
      ∙ take-append-le n (drop k a) b (simp length-drop (omega arith))

  -- and in the second
  pub part-past : (a b : List A) (k n : ℕ) → part (a ++ b) (length a + k) n ≡ part b k n
  unfolding part
  part-past a b k n = ap (take n) (drop-append-add a b k)

  -- one element of a part
  pub get_or-part : (l : List A) (at n i : ℕ) (d : A) → i < n → get_or (part l at n) i d ≡ get_or l (at + i) d
  unfolding part
  get_or-part l at n i d h = rw (get_or-take, get_or-drop)

  -- a part of one element
  pub part-one : (l : List A) (at : ℕ) (d : A) → at < length l → part l at 1 ≡ get_or l at d ∷ []
  unfolding part
  part-one l at d h = rw (drop-cons l at d)

  -- ---- a part inside a write

  pub part-put-inside : (l : List A) (at : ℕ) (bs : List A) (k n : ℕ) → at ≤ length l → k + n ≤ length bs
      → part (put l at bs) (at + k) n ≡ part bs k n
  unfolding part put
  part-put-inside l at bs k n b h =
      let rest : List A = drop (at + length bs) l in
      ap (λ (p : ℕ). take n (drop (p + k) (take at l ++ (bs ++ rest)))) (sym (length-take-le at l b))
      ∙ ap (take n) (drop-append-add (take at l) (bs ++ rest) k)
      ∙ part-append bs rest k n h

  -- a part of a part
  pub part-part : (l : List A) (at m k n : ℕ) → at + m ≤ length l → k + n ≤ m → part (part l at m) k n ≡ part l (at + k) n
  part-part l at m k n b h =
      sym (part-put-inside l at (part l at m) k n (le_trans (le-add_right at m) b) (rw (length-part l at m b) h))
      ∙ ap (λ (x : List A). part x (at + k) n) (put-part l at m b)

-- ---- bytes

pub bytes-take : (n : ℕ) (l : List ℕ) → Bytes l → Bytes (take n l)
bytes-take zero l b i = lit< tt
bytes-take (suc n) [] b i = lit< tt
bytes-take (suc n) (x ∷ xs) b zero = b zero
bytes-take (suc n) (x ∷ xs) b (suc i) = bytes-take n xs (λ k. b (suc k)) i

pub bytes-drop : (n : ℕ) (l : List ℕ) → Bytes l → Bytes (drop n l)
bytes-drop n l b i = rw (get_or-drop n l i 0) (b (n + i))

pub bytes-append : (a c : List ℕ) → Bytes a → Bytes c → Bytes (a ++ c)
bytes-append [] c b d i = d i
bytes-append (x ∷ xs) c b d zero = b zero
bytes-append (x ∷ xs) c b d (suc i) = bytes-append xs c (λ k. b (suc k)) d i

pub bytes-part : (l : List ℕ) (at n : ℕ) → Bytes l → Bytes (part l at n)
unfolding part
bytes-part l at n b = bytes-take n (drop at l) (bytes-drop at l b)

pub bytes-put : (l : List ℕ) (at : ℕ) (bs : List ℕ) → Bytes l → Bytes bs → Bytes (put l at bs)
unfolding put
bytes-put l at bs b d =
    bytes-append (take at l) (bs ++ drop (at + length bs) l) (bytes-take at l b)
    (bytes-append bs (drop (at + length bs) l) d (bytes-drop (at + length bs) l b))
