-- Some numbers of a row replaced, by the list of their indices: the row, its bytes, and what their widths hold. By induction on the indices.
use mathlib.Core.Path.{◌≡◌, refl, ap, ◌∙◌}
use mathlib.Core.List.{List, [], ◌∷◌}
use Prim.Native.Nat.{ℕ, zero, suc, ◌+◌, ◌^◌, ◌<◌, ◌≤◌}
use native.Mathlib.Nat.{le_of_suc-le-suc}
use native.Mathlib.Omega.{arith}
use lib.Dec.{lit<}
use lib.ListN.{length, get_or, drop, set, length-set}
use lib.Seq.{set-get_or}
use Rattle.word.specs.Part.{put}
use Rattle.word.specs.LittleEndian.{to_bytes}
use Rattle.word.specs.Layouts.{total, pack, Held, none, more, offset, pick, replace}
use Rattle.word.proofs.Put.{put-inside}
use Rattle.word.proofs.LittleEndian.{length-to_bytes}
use Rattle.word.proofs.Layouts.{length-pack, pack-set}

-- a row's own numbers in place of themselves change nothing
pub replace-pick : (is r : List ℕ) → replace is (pick is r) r ≡ r
replace-pick [] r = refl
replace-pick (i ∷ is) r = rw (set-get_or r i 0) (replace-pick is r)

-- ---- what the widths hold

pub held-at : {ks vs : List ℕ} → Held ks vs → (i : ℕ) → get_or vs i 0 < 256 ^ get_or ks i 0
held-at none i = lit< tt
held-at (more b h) zero = b
held-at (more b h) (suc i) = held-at h i

pub held-drop : {ks vs : List ℕ} → Held ks vs → (n : ℕ) → Held (drop n ks) (drop n vs)
held-drop h zero = h
held-drop none (suc n) = none
held-drop (more b h) (suc n) = held-drop h n

held-set : {ks vs : List ℕ} → Held ks vs → (i : ℕ) {v : ℕ} → v < 256 ^ get_or ks i 0 → Held ks (set vs i v)
held-set none i b = none
held-set (more a h) zero b = more b h
held-set (more a h) (suc i) b = more a (held-set h i b)

pub held-pick : {ks vs : List ℕ} → Held ks vs → (is : List ℕ) → Held (pick is ks) (pick is vs)
held-pick h [] = none
held-pick h (i ∷ is) = more (held-at h i) (held-pick h is)

pub held-replace : {ks vs : List ℕ} → Held ks vs → (is : List ℕ) {ws : List ℕ} → Held (pick is ks) ws → Held ks (replace is ws vs)
held-replace h [] none = h
held-replace h (i ∷ is) (more b g) = held-replace (held-set h i b) is g

-- ---- bytes

-- number i is inside its row
offset-within : (ks : List ℕ) (i : ℕ) → i < length ks → offset ks i + get_or ks i 0 ≤ total ks
unfolding total
offset-within [] i h = absurd (omega arith)
offset-within (k ∷ ks) zero h = omega arith
offset-within (k ∷ ks) (suc i) h = let r = offset-within ks i (le_of_suc-le-suc h) in omega arith

-- `Replaced ks at is vs s t`: writing the numbers vs over those with the indices is, in a row by the layout ks from byte at, takes s to t
pub data Replaced : List ℕ → ℕ → List ℕ → List ℕ → List ℕ → List ℕ → Type 0 where
  as-is : {ks s : List ℕ} {at : ℕ} → Replaced ks at [] [] s s
  and : {i v at : ℕ} {ks is vs s t u : List ℕ} → i < length ks → t ≡ put s (at + offset ks i) (to_bytes (get_or ks i 0) v) → Replaced ks at is vs t u
      → Replaced ks at (i ∷ is) (v ∷ vs) s u

pub put-replaced : (s : List ℕ) (at : ℕ) {ks is vs t u : List ℕ} (row : List ℕ) → Replaced ks at is vs t u → t ≡ put s at (pack ks row)
    → at ≤ length s → length row ≡ length ks → u ≡ put s at (pack ks (replace is vs row))
put-replaced s at row as-is e room long = e
put-replaced s at row (and {i = i} {v = v} {ks = ks} {t = t} h w r) e room long =
    let b : List ℕ = to_bytes (get_or ks i 0) v in
    let within : offset ks i + length b ≤ length (pack ks row) =
    rw (length-to_bytes (get_or ks i 0) v, length-pack ks row long) (offset-within ks i h) in
    let one : t ≡ put s at (pack ks (set row i v)) =
    w
    ∙ ap (λ (l : List ℕ). put l (at + offset ks i) b) e
    ∙ put-inside s at (pack ks row) (offset ks i) b room within
    ∙ ap (put s at) (pack-set ks row i v h long) in
    put-replaced s at (set row i v) r one room (length-set row i v ∙ long)
