-- A byte that code reads, stores or compares, as the theory says it of parts: events and snapshots of the tally are single bytes.
use mathlib.Core.Path.{◌≡◌, refl, sym, ap, ◌∙◌}
use mathlib.Core.Bool.{and-true}
use mathlib.Core.List.{List}
use Prim.Native.Nat.{ℕ, ◌+◌, ◌≤◌}
use native.Mathlib.Nat.{add-zero}
use native.Mathlib.Omega.{arith}
use lib.Dec.{eqb, lit<}
use lib.ListN.{length, get_or, set}
use Rattle.word.specs.Part.{part, put}
use Rattle.word.specs.Same.{same_bytes}
use Rattle.word.proofs.Part.{get_or-part, part-one}
use Rattle.word.proofs.Put.{set-put}
use Rattle.tally.specs.Tally.{digit_in, tally}

module _ (image : List ℕ) (at : ℕ) where
  pub byte-read : get_or image at 0 ≡ digit_in (part image at 1)
  byte-read = ap (λ (p : ℕ). get_or image p 0) (sym (add-zero at)) ∙ sym (get_or-part image at 1 0 0 (lit< tt))

  module _ (s : ℕ) (inside : at + 1 ≤ length image) where
    pub byte-stored : set image at s ≡ put image at (tally.encode s)
    byte-stored = set-put image at s (omega arith)

    pub byte-compared : eqb (get_or image at 0) s ≡ same_bytes (part image at 1) (tally.encode s)
    unfolding same_bytes
    byte-compared = rw (part-one image at 0 (omega arith), and-true (eqb (get_or image at 0) s)) refl
