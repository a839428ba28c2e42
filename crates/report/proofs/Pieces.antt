-- Pieces appended one after the other: a word and a number after it make the text longer by both, and a write at the end of the text in a
-- buffer makes that text longer by the piece.
use mathlib.Core.Path.{◌≡◌, refl, ap, ◌∙◌, subst}
use mathlib.Core.List.{List, ◌++◌, append_assoc}
use Prim.Native.Nat.{ℕ, ◌+◌, ◌≤◌}
use native.Mathlib.Omega.{arith}
use lib.ListN.{length}
use Rattle.word.specs.Part.{put}
use Rattle.word.proofs.Part.{length-put, take-put-end}
use Rattle.report.specs.Appended.{Appended}

pub next : (w d : List ℕ) {p t u v : List ℕ} → t ≡ p → u ≡ t ++ w → v ≡ u ++ d → v ≡ p ++ (w ++ d)
next w d {p} e f g = g ∙ ap (λ (l : List ℕ). l ++ d) (f ∙ ap (λ (l : List ℕ). l ++ w) e) ∙ append_assoc p w d

pub put-appended : (s : List ℕ) (at : ℕ) (piece : List ℕ) → at + length piece ≤ length s → Appended s at piece (put s at piece) (at + length piece)
put-appended s at piece h = record { text = take-put-end s at piece (omega arith); place = refl; same = length-put s at piece h }

-- a word, and a text that is equal to the one that was appended
pub text-as : (word : List ℕ) {s t p q : List ℕ} {at n : ℕ} → p ≡ q → Appended s at (word ++ p) t n → Appended s at (word ++ q) t n
text-as word {s} {t} {p} {q} {at} {n} e a = subst (λ (l : List ℕ). Appended s at (word ++ l) t n) e a
