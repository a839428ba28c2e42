-- Laws of the rest of the longer trace: by the lengths, whose rest it is.
use mathlib.Core.Path.{◌≡◌, refl, sym, ap}
use mathlib.Core.List.{List}
use Prim.Native.Nat.{ℕ, ◌+◌, ◌-◌, ◌≤◌, ◌<◌, min, max}
use native.Mathlib.Nat.{le_of_eq}
use native.Mathlib.Omega.{arith}
use borrow.Author.Tests.{ltb-true, ltb-false}
use lib.Dec.{ltb}
use lib.ListN.{length, take, drop, length-drop}
use lib.Seq.{take_all, take-length}
use Rattle.word.specs.Part.{part}
use Rattle.word.proofs.Branches.{cond-cases}
use Rattle.refusal.specs.declared.Trace.{Trace}
use Rattle.refusal.specs.declared.Trace.TheVariants.{First, Second}
use Rattle.refusal.specs.Refusals.{trace_number}
use Rattle.compare.specs.Rest.{longer, choose, past, rest_trace, rest_place, rest_of}

other : First ≡ Second → ⊥
other e = let z : ◌≡◌ {A = ℕ} 1 2 = ap trace_number e in omega arith

pub longer-first : (m n : ℕ) → longer m n ≡ First → n ≤ m
unfolding longer
longer-first m n = cond-cases (λ (t : Trace). t ≡ First → n ≤ m) (ltb m n) Second First (λ _ e. absurd (other (sym e))) (λ h _. ltb-false m n h)

pub longer-second : (m n : ℕ) → longer m n ≡ Second → m < n
unfolding longer
longer-second m n = cond-cases (λ (t : Trace). t ≡ Second → m < n) (ltb m n) Second First (λ h _. ltb-true m n h) (λ _ e. absurd (other e))

-- a part from a place on, as the checker says it
from-place : (n : ℕ) (l : List ℕ) → take (length l - n) (drop n l) ≡ drop n l
from-place n l = take_all (length l - n) (drop n l) (le_of_eq (length-drop n l))

module _ (p q : ℕ × ℕ) (first second : List ℕ) where
  abbrev place : ℕ × ℕ
  place = past (choose (rest_trace first second) p q) (rest_place first second)

  pub rest-first : rest_trace first second ≡ First
      → (take (length first - length second) (drop (length second) first) ≡ rest_of first second) × (past p (length second) ≡ place)
  rest-first e =
      let shorter : min (length first) (length second) ≡ length second = omega (arith, longer-first (length first) (length second) e) in
      rw (e, shorter, from-place) (refl, refl)

  pub rest-second : rest_trace first second ≡ Second
      → (take (length second - length first) (drop (length first) second) ≡ rest_of first second) × (past q (length first) ≡ place)
  rest-second e =
      let shorter : min (length first) (length second) ≡ length first = omega (arith, longer-second (length first) (length second) e) in
      rw (e, shorter, from-place) (refl, refl)

-- ---- in numbers, as C is told it

module _ (first second : List ℕ) where
  -- so many bytes of that trace, from that place on, are the rest
  pub rest-part : part (choose (rest_trace first second) first second) (rest_place first second) (length (rest_of first second)) ≡ rest_of first second
  unfolding part
  rest-part = take-length (rest_of first second)

  -- and it ends where the longer trace does
  pub rest-ends : rest_place first second + length (rest_of first second) ≡ max (length first) (length second)
  unfolding longer
  rest-ends =
      let m : ℕ = length first in
      let n : ℕ = length second in
      cond-cases (λ (t : Trace). min m n + length (drop (min m n) (choose t first second)) ≡ max m n) (ltb m n) Second First
      (λ h. omega (arith, ltb-true m n h, length-drop (min m n) second)) (λ h. omega (arith, ltb-false m n h, length-drop (min m n) first))
