-- Laws of `put`: writes side by side are one write, a write inside what was written is a write to it, and a copy goes element by element.
use mathlib.Core.Path.{◌≡◌, refl, sym, ap, ap₂, ◌∙◌}
use mathlib.Core.List.{List, [], ◌∷◌, ◌++◌, append_assoc}
use Prim.Native.Nat.{ℕ, ◌+◌, ◌-◌, ◌≤◌, ◌<◌}
use native.Mathlib.Nat.{add-zero, add_assoc, zero-add, suc-add, le-add_right}
use native.Mathlib.Numerals.{add-one}
use native.Mathlib.Omega.{arith}
use lib.ListN.{length, get_or, take, drop, set, length-append, take-append-drop}
use lib.Seq.{length-take-le, take-append-le, drop-append-le, drop_at, take-suc, set_split, drop-drop}
use borrow.Rule.Slice.PartMut.{put_mid}
use Rattle.word.specs.Part.{put}
use Rattle.word.proofs.Part.{length-put, take-put-end, drop-put, put-whole}

module _ {A : Type 0} where
  -- ---- writes in a row

  -- what `put` is, where it is not unfolded
  put-is : (l : List A) (at : ℕ) (b : List A) → put l at b ≡ take at l ++ (b ++ drop (at + length b) l)
  unfolding put
  put-is l at b = refl

  -- two writes side by side are one
  pub put-put : (l : List A) (at : ℕ) (a b : List A) → at ≤ length l → put (put l at a) (at + length a) b ≡ put l at (a ++ b)
  put-put l at a b h =
      let far : at + length a + length b ≡ at + length (a ++ b) = rw (length-append, add_assoc) in
      put-is (put l at a) (at + length a) b
      ∙ ap₂ (λ (r q : List A). r ++ (b ++ q)) (take-put-end l at a h)
      (drop-put l at a (at + length a + length b) (le-add_right (at + length a) (length b)) h)
      ∙ append_assoc (take at l) a (b ++ drop (at + length a + length b) l)
      ∙ ap (λ (r : List A). take at l ++ r) (sym (append_assoc a b (drop (at + length a + length b) l)))
      ∙ ap (λ (m : ℕ). take at l ++ ((a ++ b) ++ drop m l)) far
      ∙ sym (put-is l at (a ++ b))

  -- a write over a list's front
  pub put-front : (a r bs : List A) → length a ≡ length bs → put (a ++ r) 0 bs ≡ bs ++ r
  unfolding put
  put-front a r bs e = rw (zero-add, drop_at a r (length bs) e)

  -- a write past a list's front is a write to what follows it
  pub put-append : (a r : List A) (t : ℕ) (bs : List A) → put (a ++ r) (length a + t) bs ≡ a ++ put r t bs
  unfolding put
  put-append [] r t bs = rw zero-add
  put-append (x ∷ xs) r t bs = rw (suc-add (length xs) t, suc-add (length xs + t) (length bs)) (ap (λ (l : List A). x ∷ l) (put-append xs r t bs))

  -- a write inside a list's front is a write to that front
  pub put-left : (b r : List A) (k : ℕ) (c : List A) → k + length c ≤ length b → put (b ++ r) k c ≡ put b k c ++ r
  unfolding put
  put-left b r k c h =
      let first : take k (b ++ r) ≡ take k b = take-append-le k b r (omega arith) in
      let rest : drop (k + length c) (b ++ r) ≡ drop (k + length c) b ++ r = drop-append-le (k + length c) b r h in
      (λ i. first i ++ (c ++ rest i))
      ∙ ap (λ (l : List A). take k b ++ l) (sym (append_assoc c (drop (k + length c) b) r))
      ∙ sym (append_assoc (take k b) (c ++ drop (k + length c) b) r)

  past-front : (l : List A) (at : ℕ) (b : List A) (k : ℕ) (c : List A)
      → put (put l at b) (length (take at l) + k) c ≡ take at l ++ put (b ++ drop (at + length b) l) k c
  past-front l at b k c = ap (λ (m : List A). put m (length (take at l) + k) c) (put-is l at b) ∙ put-append (take at l) (b ++ drop (at + length b) l) k c

  -- a write inside bytes that were written is a write to those bytes
  pub put-inside : (l : List A) (at : ℕ) (b : List A) (k : ℕ) (c : List A) → at ≤ length l → k + length c ≤ length b
      → put (put l at b) (at + k) c ≡ put l at (put b k c)
  put-inside l at b k c h inside =
      let front : length (take at l) ≡ at = length-take-le at l h in
      let tail : List A = drop (at + length b) l in
      let same : length (put b k c) ≡ length b = length-put b k c inside in
      ap (λ (n : ℕ). put (put l at b) (n + k) c) (sym front)
      ∙ past-front l at b k c
      ∙ ap (λ (r : List A). take at l ++ r) (put-left b tail k c inside)
      ∙ ap (λ (n : ℕ). take at l ++ (put b k c ++ drop (at + n) l)) (sym same)
      ∙ sym (put-is l at (put b k c))

  -- bytes written over bytes that were written, as many
  pub put-again : (l : List A) (at : ℕ) (b c : List A) → at ≤ length l → length b ≡ length c → put (put l at b) at c ≡ put l at c
  put-again l at b c h e =
      ap (λ (n : ℕ). put (put l at b) n c) (sym (add-zero at))
      ∙ put-inside l at b 0 c h (omega (arith, e))
      ∙ ap (put l at) (put-whole b c e)

  -- no bytes written: nothing changes
  pub put-nil : (l : List A) (at : ℕ) → put l at [] ≡ l
  unfolding put
  put-nil l at = ap (λ (m : ℕ). take at l ++ drop m l) (add-zero at) ∙ take-append-drop at l

  -- one element written
  pub set-put : (l : List A) (at : ℕ) (v : A) → at < length l → set l at v ≡ put l at (v ∷ [])
  unfolding put
  set-put l at v h = rw (add-one, set_split l at v)

  -- and the rest beside it: one write
  pub put-next : (l : List A) (at : ℕ) (v : A) (rest : List A) → at < length l → put (set l at v) (at + 1) rest ≡ put l at (v ∷ rest)
  put-next l at v rest h = ap (λ (m : List A). put m (at + 1) rest) (set-put l at v h) ∙ put-put l at (v ∷ []) rest (omega arith)

  -- what a write to the range at..end leaves
  pub range-write : (l b c : List A) (at end : ℕ) → end ≡ at + length c → b ≡ c → put_mid at (end - at) l b ≡ put l at c
  unfolding put
  range-write l b c at end e same =
      let far : at + (end - at) ≡ at + length c = omega arith in
      rw (same, drop-drop (end - at) at l, far)

  -- ---- a copy, one element at a time

  pub put-more : (l : List A) (at : ℕ) (bs : List A) (i : ℕ) (d : A) → i < length bs → at + length bs ≤ length l
      → set (put l at (take i bs)) (at + i) (get_or bs i d) ≡ put l at (take (i + 1) bs)
  put-more l at bs i d h b =
      let long : length (take i bs) ≡ i = length-take-le i bs (omega arith) in
      let room : at + i < length (put l at (take i bs)) = rw (length-put l at (take i bs) (omega arith)) (omega arith) in
      set-put (put l at (take i bs)) (at + i) (get_or bs i d) room
      ∙ ap (λ (n : ℕ). put (put l at (take i bs)) (at + n) (get_or bs i d ∷ [])) (sym long)
      ∙ put-put l at (take i bs) (get_or bs i d ∷ []) (omega arith)
      ∙ ap (put l at) (rw (add-one i, take-suc bs i d))
