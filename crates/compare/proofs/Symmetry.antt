-- A trace compared with itself, and comparing with the traces exchanged: the same answer, but for what a 5 says of a trace.
use mathlib.Core.Path.{◌≡◌, refl, sym, ap, ap₂, ◌∙◌}
use mathlib.Core.Bool.{Bool, true, false, cond, ◌||◌}
use mathlib.Core.List.{List}
use Prim.Native.Nat.{ℕ, zero, suc}
use native.Mathlib.Omega.{arith}
use borrow.Author.Tests.{le-ltb}
use lib.Dec.{ltb}
use lib.ListN.{length}
use Rattle.word.proofs.Branches.{cond-cases}
use Rattle.refusal.specs.declared.Trace.TheVariants.{First, Second}
use Rattle.refusal.specs.Refusals.{Answer, refused_in, refused, given, in_trace, ◌and_then◌}
use Rattle.refusal.proofs.Answers.{refused-given}
use Rattle.image.specs.Editions.{base}
use Rattle.image.specs.Rows.{events_in}
use Rattle.image.specs.Verdicts.{events_verdict}
use Rattle.replay.specs.Events.{first_illegal}
use Rattle.compare.specs.Places.{differences}
use Rattle.compare.specs.Comparing.{bad_length, lengths_verdict, trace_verdict, traces_verdict, listed, compare_answer}
use Rattle.compare.proofs.Unique.{differences-self, differences-exchanged}
use Rattle.compare.proofs.Fit.{Fit, fit-traces}

-- ---- a trace with itself

pub compare-self : (trace : List ℕ) (room : ℕ) → Fit trace → compare_answer trace trace room ≡ given 0
unfolding compare_answer
compare-self trace room f = rw (fit-traces trace trace f f, differences-self trace, le-ltb room 0 (omega arith))

-- ---- three checks, of which the second and the third go by the trace

-- an answer without what it says of a trace: which it is, and the place there
abbrev pub unnamed : {A : Type 0} → Answer A → Answer A
unnamed (refused_in number zero place) = refused number place
unnamed (refused_in number (suc trace) place) = refused number 0
unnamed (given x) = given x

-- refused by this number, if at all; refused with no trace named, if at all
abbrev By : ℕ → Answer Unit → Type 0
By k (refused_in number trace place) = number ≡ k
By k (given x) = Unit

abbrev NoTrace : {A : Type 0} → Answer A → Type 0
NoTrace (refused_in number trace place) = trace ≡ 0
NoTrace (given x) = Unit

no-trace : {A : Type 0} {k place : ℕ} (z : Answer A) → NoTrace z → z ≡ refused_in k 2 place → ⊥
no-trace (refused_in n t p) h e = let two : t ≡ 2 = cc in omega (arith, h)
no-trace (given x) h e = refused-given (sym e)

module _ {A : Type 0} (z : Answer A) where
  abbrev checked : Answer Unit → Answer Unit → Answer Unit → Answer A
  checked l x y = (l and_then in_trace First x and_then in_trace Second y) and_then z

  checks-exchanged : (k : ℕ) (l x y : Answer Unit) → By k x → By k y → unnamed (checked l x y) ≡ unnamed (checked l y x)
  checks-exchanged k (refused_in n t p) x y h g = refl
  checks-exchanged k (given u) (refused_in n t p) (refused_in m s q) h g = ap (λ (i : ℕ). refused i 0) (h ∙ sym g)
  checks-exchanged k (given u) (refused_in n t p) (given v) h g = refl
  checks-exchanged k (given u) (given v) (refused_in m s q) h g = refl
  checks-exchanged k (given u) (given v) (given w) h g = refl

  -- a refusal that names the second trace
  second-named : (k place : ℕ) (l x y : Answer Unit) → NoTrace l → NoTrace z → checked l x y ≡ refused_in k 2 place → checked l y x ≡ refused_in k 1 place
  second-named k place (refused_in n t p) x y h g e = let two : t ≡ 2 = cc in absurd (omega (arith, h))
  second-named k place (given u) (refused_in n t p) y h g e = let two : ◌≡◌ {A = ℕ} 1 2 = cc in absurd (omega arith)
  second-named k place (given u) (given v) (refused_in n t p) h g e =
      let number : n ≡ k = cc in
      let same : p ≡ place = cc in
      ap₂ (λ (i j : ℕ). refused_in i 1 j) number same
  second-named k place (given u) (given v) (given w) h g e = absurd (no-trace z g e)

-- ---- the traces exchanged

module _ (a b : List ℕ) (room : ℕ) where
  either-way : (p q : Bool) → p || q ≡ q || p
  either-way true true = refl
  either-way true false = refl
  either-way false true = refl
  either-way false false = refl

  lengths-exchanged : lengths_verdict a b ≡ lengths_verdict b a
  unfolding lengths_verdict
  lengths-exchanged = ap (λ (t : Bool). cond t (refused 9 0) (given tt)) (either-way (bad_length a) (bad_length b))

  by-five : (trace : List ℕ) → By 5 (events_verdict base 5 trace 0 (events_in trace))
  unfolding events_verdict
  by-five trace =
      let i : ℕ = first_illegal base trace 0 0 (events_in trace) in
      cond-cases (By 5) (ltb i (events_in trace)) (refused 5 i) (given tt) (λ _. refl) (λ _. tt)

  lengths-unnamed : NoTrace (lengths_verdict a b)
  unfolding lengths_verdict
  lengths-unnamed = cond-cases NoTrace (bad_length a || bad_length b) (refused 9 0) (given tt) (λ _. refl) (λ _. tt)

  listed-unnamed : (places : List ℕ) → NoTrace (listed room places)
  listed-unnamed places = cond-cases NoTrace (ltb room (length places)) (refused 12 0) (given (length places)) (λ _. refl) (λ _. tt)

  abbrev illegal : List ℕ → Answer Unit
  illegal trace = events_verdict base 5 trace 0 (events_in trace)

  -- what does not go by the trace
  exchanged : checked (listed room (differences a b)) (lengths_verdict a b) (illegal b) (illegal a)
      ≡ checked (listed room (differences b a)) (lengths_verdict b a) (illegal b) (illegal a)
  exchanged =
      ap₂ (λ (l : Answer Unit) (places : List ℕ). checked (listed room places) l (illegal b) (illegal a)) lengths-exchanged
      (differences-exchanged a b)

  pub compare-symmetric : unnamed (compare_answer a b room) ≡ unnamed (compare_answer b a room)
  unfolding compare_answer traces_verdict trace_verdict
  compare-symmetric =
      checks-exchanged (listed room (differences a b)) 5 (lengths_verdict a b) (illegal a) (illegal b) (by-five a) (by-five b)
      ∙ ap unnamed exchanged

  -- a 5 that names the second trace names it as the first then, at the same place
  pub compare-exchanged : (place : ℕ) → compare_answer a b room ≡ refused_in 5 2 place → compare_answer b a room ≡ refused_in 5 1 place
  unfolding compare_answer traces_verdict trace_verdict
  compare-exchanged place e =
      sym exchanged
      ∙ second-named (listed room (differences a b)) 5 place (lengths_verdict a b) (illegal a) (illegal b) lengths-unnamed
      (listed-unnamed (differences a b)) e
