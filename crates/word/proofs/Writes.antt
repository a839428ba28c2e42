-- Writes by a layout: numbers written side by side in the layout's order are one row, and rows written side by side are one row.
use mathlib.Core.Path.{◌≡◌, refl, sym, ap, ◌∙◌}
use mathlib.Core.List.{List, [], ◌∷◌, ◌++◌, append_assoc}
use Prim.Native.Nat.{ℕ, ◌+◌, ◌≤◌}
use native.Mathlib.Nat.{add_assoc, suc_inj, suc-ne-zero}
use native.Mathlib.Omega.{arith}
use lib.ListN.{length}
use Rattle.word.specs.Part.{put}
use Rattle.word.specs.LittleEndian.{to_bytes}
use Rattle.word.specs.Layouts.{total, pack}
use Rattle.word.proofs.Part.{length-put}
use Rattle.word.proofs.Put.{put-put, put-nil}
use Rattle.word.proofs.LittleEndian.{length-to_bytes}
use Rattle.word.proofs.Layouts.{length-pack}

-- ---- numbers

-- `Wrote ks vs s at i t`: writing the numbers vs by the layout ks, the first i bytes past byte at, takes s to t
pub data Wrote : List ℕ → List ℕ → List ℕ → ℕ → ℕ → List ℕ → Type 0 where
  end : {s : List ℕ} {at i : ℕ} → Wrote [] [] s at i s
  then : {k n v : ℕ} {ks vs s t u : List ℕ} {at i : ℕ} → n ≡ v → t ≡ put s (at + i) (to_bytes k n) → Wrote ks vs t at (i + k) u
      → Wrote (k ∷ ks) (v ∷ vs) s at i u

-- one write, and the bytes that follow it
beside : (s t : List ℕ) (at k n v : ℕ) (bs : List ℕ) → at ≤ length s → n ≡ v → t ≡ put s at (to_bytes k n) → put t (at + k) bs ≡ put s at (to_bytes k v ++ bs)
beside s t at k n v bs h same e = rw (e, same) (rw (length-to_bytes k v) at (put-put s at (to_bytes k v) bs h))

-- a write leaves as much room as there was
room : (s t : List ℕ) (at k n m : ℕ) → at + (k + m) ≤ length s → t ≡ put s at (to_bytes k n) → at + k + m ≤ length t
room s t at k n m h e =
    let w : length (to_bytes k n) ≡ k = length-to_bytes k n in
    let same : length (put s at (to_bytes k n)) ≡ length s = length-put s at (to_bytes k n) (omega arith) in
    rw e (omega arith)

-- from i bytes past byte at
pub wrote-from : {ks vs s u : List ℕ} {at i : ℕ} → Wrote ks vs s at i u → at + i + total ks ≤ length s → u ≡ put s (at + i) (pack ks vs)
unfolding total pack
wrote-from (end {s = s} {at = at} {i = i}) h = sym (put-nil s (at + i))
wrote-from (then {k = k} {n = n} {v = v} {ks = ks} {vs = vs} {s = s} {t = t} {at = at} {i = i} same e r) h =
    let far : at + i + k ≡ at + (i + k) = add_assoc at i k in
    wrote-from r (rw far at (room s t (at + i) k n (total ks) h e))
    ∙ rw far at (beside s t (at + i) k n v (pack ks vs) (omega arith) same e)

pub wrote : (s : List ℕ) {k n v at : ℕ} {ks vs t u : List ℕ} → n ≡ v → t ≡ put s at (to_bytes k n) → Wrote ks vs t at k u → at + total (k ∷ ks) ≤ length s
    → u ≡ put s at (pack (k ∷ ks) (v ∷ vs))
unfolding total pack
wrote s {k} {n} {v} {at} {ks} {vs} {t} same e r h =
    wrote-from r (room s t at k n (total ks) h e) ∙ beside s t at k n v (pack ks vs) (omega arith) same e

-- ---- rows

pack-append : (ks ls vs ws : List ℕ) → length vs ≡ length ks → pack (ks ++ ls) (vs ++ ws) ≡ pack ks vs ++ pack ls ws
unfolding pack
pack-append [] ls [] ws e = refl
pack-append [] ls (v ∷ vs) ws e = absurd (suc-ne-zero (length vs) e)
pack-append (k ∷ ks) ls [] ws e = absurd (suc-ne-zero (length ks) (sym e))
pack-append (k ∷ ks) ls (v ∷ vs) ws e =
    ap (λ (r : List ℕ). to_bytes k v ++ r) (pack-append ks ls vs ws (suc_inj e)) ∙ sym (append_assoc (to_bytes k v) (pack ks vs) (pack ls ws))

pub put-rows : (ks ls vs ws s t u : List ℕ) (at : ℕ) → at ≤ length s → t ≡ put s at (pack ks vs) → u ≡ put t (at + total ks) (pack ls ws)
    → length vs ≡ length ks → u ≡ put s at (pack (ks ++ ls) (vs ++ ws))
put-rows ks ls vs ws s t u at h first second e =
    second
    ∙ ap (λ (l : List ℕ). put l (at + total ks) (pack ls ws)) first
    ∙ ap (λ (n : ℕ). put (put s at (pack ks vs)) (at + n) (pack ls ws)) (sym (length-pack ks vs e))
    ∙ put-put s at (pack ks vs) (pack ls ws) h
    ∙ ap (put s at) (sym (pack-append ks ls vs ws e))
