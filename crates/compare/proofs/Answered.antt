-- Laws of comparing's answer, with the row after it: a verdict that refuses, 12, and what is listed.
use mathlib.Core.Path.{◌≡◌, refl, sym, ap₂, ◌∙◌}
use mathlib.Core.Bool.{Bool, ◌||◌}
use mathlib.Core.List.{List}
use Prim.Native.Nat.{ℕ, ◌≤◌, ◌<◌}
use native.Mathlib.Nat.{zero-add}
use borrow.Author.Tests.{lt-ltb, le-ltb}
use lib.ListN.{length}
use Rattle.word.specs.Part.{put}
use Rattle.refusal.specs.declared.Refusal.{Refusal}
use Rattle.refusal.specs.declared.Trace.TheVariants.{First, Second}
use Rattle.refusal.specs.Refusals.{Answer, refused_in, refused, given, refusal, ◌and_then◌}
use Rattle.refusal.proofs.Answers.{refused-given, both-passed}
use Rattle.compare.specs.Places.{differences}
use Rattle.compare.specs.Comparing.{lengths_verdict, trace_verdict, traces_verdict, compare_answer, compare_row}

-- two tests that calls made
pub either : {a b r s t : Bool} → r ≡ a → s ≡ b → r || s ≡ t → a || b ≡ t
either p q e = sym (ap₂ ◌||◌ p q) ∙ e

-- ---- the traces' verdict, where 9 and 5 of the first trace are known

first-of-three : (r : Refusal) (a b c : Answer Unit) → refusal r ≡ (a and_then b) → refusal r ≡ (a and_then b and_then c)
first-of-three r (refused_in n t p) b c e = e
first-of-three r (given u) (refused_in n t p) c e = e
first-of-three r (given u) (given v) c e = absurd (refused-given e)

module _ (first second : List ℕ) where
  pub front-refused : (r : Refusal) → refusal r ≡ (lengths_verdict first second and_then trace_verdict First first) → refusal r ≡ traces_verdict first second
  unfolding traces_verdict
  front-refused r = first-of-three r (lengths_verdict first second) (trace_verdict First first) (trace_verdict Second second)

  pub first-passed : (lengths_verdict first second and_then trace_verdict First first) ≡ given tt → trace_verdict First first ≡ given tt
  first-passed e = (both-passed (lengths_verdict first second) (trace_verdict First first) e).1

  pub front-passed : (lengths_verdict first second and_then trace_verdict First first) ≡ given tt → trace_verdict Second second ≡ traces_verdict first second
  unfolding traces_verdict
  front-passed e =
      let both = both-passed (lengths_verdict first second) (trace_verdict First first) e in
      rw (both.0, both.1)

-- ---- the call

module _ (first second row : List ℕ) where
  -- 9 or 5
  pub not-compared : (r : Refusal) → refusal r ≡ traces_verdict first second
      → (refusal r ≡ compare_answer first second (length row)) × (row ≡ compare_row first second row)
  unfolding compare_answer compare_row
  not-compared r e = rw (← e) (refl, refl)

  module _ (passes : traces_verdict first second ≡ given tt) (n : ℕ) (counted : n ≡ length (differences first second)) where
    -- 12
    pub not-listed : length row < n → (refused 12 0 ≡ compare_answer first second (length row)) × (row ≡ compare_row first second row)
    unfolding compare_answer compare_row
    not-listed h = rw (passes, ← counted, lt-ltb (length row) n h) (refl, refl)

    pub all-listed : n ≤ length row → (filled : List ℕ) → filled ≡ put row 0 (differences first second)
        → (given n ≡ compare_answer first second (length row)) × (filled ≡ compare_row first second row)
    unfolding compare_answer compare_row put
    all-listed h filled e = rw (passes, ← counted, le-ltb (length row) n h) (refl, e ∙ rw (zero-add, ← counted))
