-- A buffer that is one snapshot or one event: what is said of the part that covers it is said of it.
use mathlib.Core.Path.{◌≡◌, sym, ap, ◌∙◌}
use mathlib.Core.Bool.{Bool}
use mathlib.Core.List.{List}
use Prim.Native.Nat.{ℕ}
use lib.ListN.{length}
use Rattle.word.specs.Part.{part}
use Rattle.word.proofs.Part.{part-whole}

pub of-whole : {A : Type 0} (f : List ℕ → A) (l : List ℕ) (n : ℕ) → length l ≡ n → f (part l 0 n) ≡ f l
of-whole f l n e = ap f (part-whole l n e)

-- and so is what a call answered of the part
pub whole-answer : (f : List ℕ → Bool) (l : List ℕ) {n : ℕ} {r b : Bool} → length l ≡ n → r ≡ f (part l 0 n) → r ≡ b → f l ≡ b
whole-answer f l {n} e answered test = sym (of-whole f l n e) ∙ sym answered ∙ test
