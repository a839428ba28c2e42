-- Laws of little-endian numbers, once over the count of bytes: the length, the bound, both round trips, and a number in two parts.
use mathlib.Core.Path.{◌≡◌, refl, ap, ◌∙◌}
use mathlib.Core.List.{List, [], ◌∷◌}
use Prim.Native.Nat.{ℕ, zero, suc, ◌+◌, ◌*◌, ◌/◌, ◌%◌, ◌^◌, ◌<◌, ◌≤◌}
use native.Mathlib.Nat.{pow-suc, mod-lt, zero-add, add-zero, suc-add, add_assoc, div-div-eq-div-mul}
use Rattle.std.specs.Int.{w16, w32, w64, to_le_bytes, from_le_bytes}
use native.Mathlib.Omega.{arith}
use lib.Dec.{lit<}
use lib.ListN.{length, get_or, set}
use lib.Seq.{drop-cons}
use Rattle.word.specs.Part.{Bytes, part, put}
use Rattle.word.specs.LittleEndian.{to_bytes, of_bytes, number_at}
use Rattle.word.proofs.Part.{length-part, bytes-part}
use Rattle.word.proofs.Put.{set-put}

pub length-to_bytes : (k v : ℕ) → length (to_bytes k v) ≡ k
unfolding to_bytes
length-to_bytes zero v = refl
length-to_bytes (suc k) v = ap suc (length-to_bytes k (v / 256))

pub bytes-to_bytes : (k v : ℕ) → Bytes (to_bytes k v)
unfolding to_bytes
bytes-to_bytes zero v i = lit< tt
bytes-to_bytes (suc k) v zero = mod-lt v (lit< tt)
bytes-to_bytes (suc k) v (suc i) = bytes-to_bytes k (v / 256) i

pub of_bytes-lt : (bs : List ℕ) → Bytes bs → of_bytes bs < 256 ^ length bs
unfolding of_bytes
of_bytes-lt [] b = lit< tt
of_bytes-lt (x ∷ xs) b =
    let low : x < 256 = b zero in
    let high : of_bytes xs < 256 ^ length xs = of_bytes-lt xs (λ i. b (suc i)) in
    rw pow-suc (omega arith)

-- a number that k bytes hold is read back from its k bytes
pub of_bytes-to_bytes : (k v : ℕ) → v < 256 ^ k → of_bytes (to_bytes k v) ≡ v
unfolding to_bytes of_bytes
of_bytes-to_bytes zero v h = omega arith
of_bytes-to_bytes (suc k) v h =
    let g : v < 256 ^ k * 256 = rw pow-suc at h in
    let high : v / 256 < 256 ^ k = omega arith in
    ap (λ (r : ℕ). v % 256 + 256 * r) (of_bytes-to_bytes k (v / 256) high) ∙ omega arith

-- bytes are written back from the number that they stand for
pub to_bytes-of_bytes : (bs : List ℕ) → Bytes bs → to_bytes (length bs) (of_bytes bs) ≡ bs
unfolding to_bytes of_bytes
to_bytes-of_bytes [] b = refl
to_bytes-of_bytes (x ∷ xs) b =
    let low : x < 256 = b zero in
    let first : (x + 256 * of_bytes xs) % 256 ≡ x = omega arith in
    let rest : (x + 256 * of_bytes xs) / 256 ≡ of_bytes xs = omega arith in
    rw (first, rest, to_bytes-of_bytes xs (λ i. b (suc i)))

-- ---- the language's own bytes of a number

pub bytes-2 : (n : ℕ) → to_le_bytes w16 n ≡ to_bytes 2 n
unfolding to_bytes
bytes-2 n = refl

pub bytes-4 : (n : ℕ) → to_le_bytes w32 n ≡ to_bytes 4 n
unfolding to_bytes
bytes-4 n = rw (div-div-eq-div-mul n 256 256, div-div-eq-div-mul n (256 * 256) 256)

pub bytes-8 : (n : ℕ) → to_le_bytes w64 n ≡ to_bytes 8 n
unfolding to_bytes
bytes-8 n =
    rw (
      div-div-eq-div-mul n 256 256,
      div-div-eq-div-mul n (256 ^ 2) 256,
      div-div-eq-div-mul n (256 ^ 3) 256,
      div-div-eq-div-mul n (256 ^ 4) 256,
      div-div-eq-div-mul n (256 ^ 5) 256,
      div-div-eq-div-mul n (256 ^ 6) 256,
    )

-- ---- a number at an offset

pub number_at-lt : (s : List ℕ) (at k : ℕ) → Bytes s → at + k ≤ length s → number_at s at k < 256 ^ k
number_at-lt s at k b h = rw (length-part s at k h) at (of_bytes-lt (part s at k) (bytes-part s at k b))

pub number_at-zero : (s : List ℕ) (at : ℕ) {k : ℕ} → k ≡ 0 → number_at s at k ≡ 0
unfolding of_bytes part
number_at-zero s at e = rw e

-- the lowest byte, and the number in the bytes above it
pub number_at-suc : (s : List ℕ) (at k : ℕ) → at < length s → number_at s at (suc k) ≡ get_or s at 0 + 256 * number_at s (suc at) k
unfolding of_bytes part
number_at-suc s at k h = rw (drop-cons s at 0 h)

-- the number in one byte
pub number_at-one : (s : List ℕ) (at : ℕ) → at < length s → number_at s at 1 ≡ get_or s at 0
number_at-one s at h = number_at-suc s at 0 h ∙ rw (number_at-zero s (suc at) refl) (omega arith)

-- the number in a + b bytes: the first a of them, and the b bytes after
pub number_at-add : (s : List ℕ) (at a b : ℕ) → at + a ≤ length s → number_at s at (a + b) ≡ number_at s at a + 256 ^ a * number_at s (at + a) b
number_at-add s at zero b h = rw (zero-add, add-zero, number_at-zero s at refl) (omega arith)
number_at-add s at (suc a) b h =
    let here : number_at s at (suc a + b) ≡ get_or s at 0 + 256 * number_at s (suc at) (a + b) = rw suc-add (number_at-suc s at (a + b) (omega arith)) in
    let place : at + suc a ≡ suc at + a = omega arith in
    rw (here, place, number_at-suc s at a (omega arith), number_at-add s (suc at) a b (omega arith), pow-suc) (omega arith)

-- one byte is written by storing it
pub set-byte : (s : List ℕ) (at v : ℕ) → at < length s → v < 256 → set s at v ≡ put s at (to_bytes 1 v)
unfolding to_bytes
set-byte s at v h b =
    let same : v % 256 ≡ v = omega arith in
    rw same (set-put s at v h)

-- the number in two bytes, in four and in eight, as the language reads it
pub number_at-2 : (s : List ℕ) (at : ℕ) → at + 2 ≤ length s → from_le_bytes w16 (get_or s at 0 ∷ get_or s (at + 1) 0 ∷ []) ≡ number_at s at 2
number_at-2 s at h =
    let low = number_at-one s at (omega arith) in
    let high = number_at-one s (at + 1) (omega arith) in
    omega (arith, low, high, number_at-add s at 1 1 (omega arith))

pub number_at-4 : (s : List ℕ) (at : ℕ) → at + 4 ≤ length s
    → from_le_bytes w32 (get_or s at 0 ∷ get_or s (at + 1) 0 ∷ get_or s (at + 2) 0 ∷ get_or s (at + 3) 0 ∷ []) ≡ number_at s at 4
number_at-4 s at h =
    let low = number_at-2 s at (omega arith) in
    let high = rw (add_assoc at 2 1) at (number_at-2 s (at + 2) (omega arith)) in
    omega (arith, low, high, number_at-add s at 2 2 (omega arith))

pub number_at-8 : (s : List ℕ) (at : ℕ) → at + 8 ≤ length s
    → from_le_bytes w64 (get_or s at 0 ∷ get_or s (at + 1) 0 ∷ get_or s (at + 2) 0 ∷ get_or s (at + 3) 0
    ∷ get_or s (at + 4) 0 ∷ get_or s (at + 5) 0 ∷ get_or s (at + 6) 0 ∷ get_or s (at + 7) 0 ∷ []) ≡ number_at s at 8
number_at-8 s at h =
    let low = number_at-4 s at (omega arith) in
    let high = rw (add_assoc at 4 1, add_assoc at 4 2, add_assoc at 4 3) at (number_at-4 s (at + 4) (omega arith)) in
    omega (arith, low, high, number_at-add s at 4 4 (omega arith))
