-- Laws of layouts, by induction on the layout: the length, one number replaced, both round trips, and each number at its offset.
use mathlib.Core.Path.{◌≡◌, refl, sym, ap, ◌∙◌}
use mathlib.Core.List.{List, [], ◌∷◌, ◌++◌}
use Prim.Native.Nat.{ℕ, zero, suc, ◌+◌, ◌<◌}
use native.Mathlib.Nat.{add-zero, add_assoc, suc_inj, suc-ne-zero, le_of_suc-le-suc}
use native.Mathlib.Omega.{arith}
use lib.ListN.{length, get_or, take, drop, set, length-append, length-drop, take-append-drop}
use lib.Seq.{length-take-le, take_at, drop_at, drop-drop}
use Rattle.word.specs.Part.{Bytes, part, put}
use Rattle.word.specs.LittleEndian.{to_bytes, of_bytes, number_at}
use Rattle.word.specs.Layouts.{total, pack, unpack, Held, none, more}
use Rattle.word.proofs.Part.{bytes-take, bytes-drop, bytes-append, take-part, drop-part}
use Rattle.word.proofs.Put.{put-front, put-append}
use Rattle.word.proofs.LittleEndian.{length-to_bytes, bytes-to_bytes, of_bytes-lt, of_bytes-to_bytes, to_bytes-of_bytes}

pub length-pack : (ks vs : List ℕ) → length vs ≡ length ks → length (pack ks vs) ≡ total ks
unfolding pack total
length-pack [] vs h = refl
length-pack (k ∷ ks) [] h = absurd (suc-ne-zero (length ks) (sym h))
length-pack (k ∷ ks) (v ∷ vs) h =
    length-append (to_bytes k v) (pack ks vs) ∙ cc (length-to_bytes k v, length-pack ks vs (suc_inj h))

-- number i of a row is replaced by writing the bytes of the new one over those of the old
pub pack-set : (ks vs : List ℕ) (i v : ℕ) → i < length ks → length vs ≡ length ks
    → put (pack ks vs) (total (take i ks)) (to_bytes (get_or ks i 0) v) ≡ pack ks (set vs i v)
unfolding pack total
pack-set [] vs i v h e = absurd (omega arith)
pack-set (k ∷ ks) [] i v h e = absurd (suc-ne-zero (length ks) (sym e))
pack-set (k ∷ ks) (w ∷ vs) zero v h e = put-front (to_bytes k w) (pack ks vs) (to_bytes k v) (length-to_bytes k w ∙ sym (length-to_bytes k v))
pack-set (k ∷ ks) (w ∷ vs) (suc i) v h e =
    ap (λ (n : ℕ). put (to_bytes k w ++ pack ks vs) (n + total (take i ks)) (to_bytes (get_or ks i 0) v)) (sym (length-to_bytes k w))
    ∙ put-append (to_bytes k w) (pack ks vs) (total (take i ks)) (to_bytes (get_or ks i 0) v)
    ∙ ap (λ (l : List ℕ). to_bytes k w ++ l) (pack-set ks vs i v (le_of_suc-le-suc h) (suc_inj e))

-- ---- round trips

-- a row of numbers that their widths hold is read back from its bytes
pub unpack-pack : {ks vs : List ℕ} → Held ks vs → unpack ks (pack ks vs) ≡ vs
unfolding pack unpack
unpack-pack none = refl
unpack-pack (more {k = k} {v = v} {ks = ks} {vs = vs} h r) =
    let long : length (to_bytes k v) ≡ k = length-to_bytes k v in
    rw (take_at (to_bytes k v) (pack ks vs) k long, drop_at (to_bytes k v) (pack ks vs) k long, of_bytes-to_bytes k v h, unpack-pack r)

-- the first number of a layout, and the bytes that are left for the others
module _ (k : ℕ) (ks bs : List ℕ) (b : Bytes bs) (h : length bs ≡ k + total ks) where
  length-first : length (take k bs) ≡ k
  length-first = length-take-le k bs (omega arith)

  length-rest : length (drop k bs) ≡ total ks
  length-rest = length-drop k bs ∙ omega arith

-- bytes are written back from the row that they hold
pub pack-unpack : (ks bs : List ℕ) → Bytes bs → length bs ≡ total ks → pack ks (unpack ks bs) ≡ bs
unfolding pack unpack total
pack-unpack [] [] b h = refl
pack-unpack [] (x ∷ xs) b h = absurd (suc-ne-zero (length xs) h)
pack-unpack (k ∷ ks) bs b h =
    let first : to_bytes k (of_bytes (take k bs)) ≡ take k bs = rw (length-first k ks bs b h) at (to_bytes-of_bytes (take k bs) (bytes-take k bs b)) in
    rw (first, pack-unpack ks (drop k bs) (bytes-drop k bs b) (length-rest k ks bs b h)) (take-append-drop k bs)

-- and that row's widths hold its numbers
pub held-unpack : (ks bs : List ℕ) → Bytes bs → length bs ≡ total ks → Held ks (unpack ks bs)
unfolding unpack total
held-unpack [] bs b h = none
held-unpack (k ∷ ks) bs b h =
    more (rw (length-first k ks bs b h) at (of_bytes-lt (take k bs) (bytes-take k bs b)))
    (held-unpack ks (drop k bs) (bytes-drop k bs b) (length-rest k ks bs b h))

-- ---- rows side by side, and a row's bytes

pub held-append : {ks ls vs ws : List ℕ} → Held ks vs → Held ls ws → Held (ks ++ ls) (vs ++ ws)
held-append none g = g
held-append (more b h) g = more b (held-append h g)

pub bytes-pack : (ks vs : List ℕ) → Bytes (pack ks vs)
unfolding pack
bytes-pack [] vs i = omega arith
bytes-pack (k ∷ ks) [] i = omega arith
bytes-pack (k ∷ ks) (v ∷ vs) i = bytes-append (to_bytes k v) (pack ks vs) (bytes-to_bytes k v) (bytes-pack ks vs) i

-- ---- numbers at their offsets

-- the numbers of a layout whose first is i bytes past byte at
abbrev pub numbers_at : List ℕ → List ℕ → ℕ → ℕ → List ℕ
numbers_at [] s at i = []
numbers_at (k ∷ ks) s at i = number_at s (at + i) k ∷ numbers_at ks s at (i + k)

pub unpack-from : (ks s : List ℕ) (at i : ℕ) → unpack ks (drop (at + i) s) ≡ numbers_at ks s at i
unfolding unpack part
unpack-from [] s at i = refl
unpack-from (k ∷ ks) s at i = rw (drop-drop k (at + i) s, add_assoc at i k, unpack-from ks s at (i + k))

unpack-part : (ks s : List ℕ) (at i : ℕ) → unpack ks (part s (at + i) (total ks)) ≡ numbers_at ks s at i
unfolding unpack total
unpack-part [] s at i = refl
unpack-part (k ∷ ks) s at i =
    rw (take-part s (at + i) k (total ks), drop-part s (at + i) k (total ks), add_assoc at i k, unpack-part ks s at (i + k))

-- a layout's numbers in the bytes that it takes from byte at, and in a part that is those bytes
pub unpack-here : (ks s : List ℕ) (at : ℕ) → unpack ks (part s at (total ks)) ≡ numbers_at ks s at 0
unpack-here ks s at = rw add-zero at (unpack-part ks s at 0)

pub numbers-part : (ks s : List ℕ) (at : ℕ) → numbers_at ks (part s at (total ks)) 0 0 ≡ numbers_at ks s at 0
numbers-part ks s at = sym (unpack-from ks (part s at (total ks)) 0 0) ∙ unpack-here ks s at
