-- Laws of answers: a refusal is no other answer, a chain of tests that gives an answer had no test that refused, and a check that was
-- passed leaves what comes after it.
use mathlib.Core.Path.{◌≡◌, refl, sym, ap, ◌∙◌}
use mathlib.Core.Bool.{Bool, true, false, cond, not, ◌||◌, false≢true}
use mathlib.Core.List.{List}
use Prim.Native.Nat.{ℕ, ◌-◌, ◌^◌, ◌≤◌}
use native.Mathlib.Omega.{arith}
use Rattle.std.specs.Prelude.{Result, Ok, Err}
use Rattle.refusal.specs.declared.Trace.{Trace}
use Rattle.refusal.specs.declared.Trace.TheVariants.{First, Second}
use Rattle.refusal.specs.declared.Refusal.{Refusal}
use Rattle.refusal.specs.declared.Refusal.TheVariants.{Short, Limits, Offsets, Length, Event, Snapshot, Patch, PatchEvent, Size, TraceEvent, Row}
use Rattle.refusal.specs.Refusals.{Answer, refused_in, refused, given, trace_number, number_of, trace_of, refusal, answer_of, status_of, Placed}
use Rattle.refusal.specs.Refusals.{told, in_trace, ◌and_then◌, changed_if}

-- ---- tests in a row

pub refused-given : {A : Type 0} {n t p : ℕ} {x : A} → refused_in n t p ≡ given x → ⊥
refused-given e = let z : ◌≡◌ {A = ℕ} 0 1 = cc in omega arith

pub passed : {A : Type 0} {x : A} (t : Bool) (n p : ℕ) (rest : Answer A) → cond t (refused n p) rest ≡ given x → (t ≡ false) × (rest ≡ given x)
passed true n p rest e = absurd (refused-given e)
passed false n p rest e = (refl, e)

pub pass : {A : Type 0} (t : Bool) (n p : ℕ) (rest : Answer A) {x : Answer A} → t ≡ false → rest ≡ x → cond t (refused n p) rest ≡ x
pass t n p rest e h = rw e h

-- a test as code has it and as the definition has it: where it is passed, and where it refuses
module _ {a b : Bool} (n p : ℕ) (same : a ≡ b) where
  abbrev tested : Bool → Answer Unit
  tested t = cond (not t) (refused n p) (given tt)

  pub test-passes : a ≡ true → tested true ≡ tested b
  test-passes t = ap tested (sym t ∙ same)

  pub test-refuses : a ≡ false → tested false ≡ tested b
  test-refuses t = ap tested (sym t ∙ same)

pub none_of : (a b : Bool) → a || b ≡ false → (a ≡ false) × (b ≡ false)
none_of true b e = absurd (false≢true (sym e))
none_of false b e = (refl, e)

-- ---- one check after another

pub both-passed : {A : Type 0} {x : A} (a : Answer Unit) (b : Answer A) → (a and_then b) ≡ given x → (a ≡ given tt) × (b ≡ given x)
both-passed (refused_in n t p) b e = absurd (refused-given e)
both-passed (given tt) b e = (refl, e)

-- an answer of one of two traces that refuses nothing
pub in-passed : {A : Type 0} {x : A} (t : Trace) (a : Answer A) → in_trace t a ≡ given x → a ≡ given x
in-passed t (refused_in n s p) e = absurd (refused-given e)
in-passed t (given y) e = e

-- nor does one that tells another place
pub told-passed : {A : Type 0} {x : A} (a : Answer A) → told a ≡ given x → a ≡ given x
told-passed (refused_in n t p) e = absurd (refused-given e)
told-passed (given y) e = e

-- ---- a result that the code gave

module _ (v : Result Unit Refusal) (a : Answer Unit) (answered : answer_of v ≡ a) where
  module _ (r : Refusal) (e : v ≡ Err r) where
    pub refused-answer : a ≡ refusal r
    refused-answer = sym answered ∙ ap answer_of e

    pub refused-first : (x : Answer Unit) → answer_of v ≡ (a and_then x)
    refused-first x = ap answer_of e ∙ sym (ap (λ (t : Answer Unit). t and_then x) refused-answer)

    pub refused-then : {A : Type 0} (x : Answer A) → refusal r ≡ (a and_then x)
    refused-then x = sym (ap (λ (t : Answer Unit). t and_then x) refused-answer)

    pub refused-kept : {A : Type 0} (old new : List A) → old ≡ changed_if a old new
    refused-kept {A} old new = sym (ap (λ (t : Answer Unit). changed_if t old new) refused-answer)

  module _ (e : v ≡ Ok tt) where
    pub accepted-answer : a ≡ given tt
    accepted-answer = sym answered ∙ ap answer_of e

    pub accepted-then : {A : Type 0} {x y : Answer A} → y ≡ x → y ≡ (a and_then x)
    accepted-then {A} {x} h = h ∙ sym (ap (λ (t : Answer Unit). t and_then x) accepted-answer)

    pub accepted-changed : {A : Type 0} (old : List A) {new after : List A} → after ≡ new → after ≡ changed_if a old new
    accepted-changed {A} old {new} h = h ∙ sym (ap (λ (t : Answer Unit). changed_if t old new) accepted-answer)

-- ---- the status that C is given

pub number-range : (r : Refusal) → (1 ≤ number_of r) × (number_of r ≤ 12)
number-range Short = (omega arith, omega arith)
number-range Limits = (omega arith, omega arith)
number-range Offsets = (omega arith, omega arith)
number-range Length = (omega arith, omega arith)
number-range (Event i) = (omega arith, omega arith)
number-range (Snapshot j) = (omega arith, omega arith)
number-range Patch = (omega arith, omega arith)
number-range (PatchEvent i) = (omega arith, omega arith)
number-range Size = (omega arith, omega arith)
number-range (TraceEvent t i) = (omega arith, omega arith)
number-range Row = (omega arith, omega arith)

pub trace-few : (t : Trace) → trace_number t ≤ 2
trace-few First = omega arith
trace-few Second = omega arith

pub trace-range : (r : Refusal) → trace_of r ≤ 2
trace-range Short = omega arith
trace-range Limits = omega arith
trace-range Offsets = omega arith
trace-range Length = omega arith
trace-range (Event i) = omega arith
trace-range (Snapshot j) = omega arith
trace-range Patch = omega arith
trace-range (PatchEvent i) = omega arith
trace-range Size = omega arith
trace-range (TraceEvent t i) = trace-few t
trace-range Row = omega arith

-- status 0 is given where nothing is refused, and only there
pub status-done : (v : Result Unit Refusal) → status_of (answer_of v) ≡ 0 → answer_of v ≡ given tt
status-done (Err r) e = absurd (omega (arith, (number-range r).0))
status-done (Ok x) e = refl

pub status-kept : {A : Type 0} (a : Answer Unit) (old new : List A) → (status_of a ≡ 0 → ⊥) → old ≡ changed_if a old new
status-kept (refused_in n t p) old new h = refl
status-kept (given tt) old new h = absurd (h refl)

-- what is left goes by what is given alone
pub changed-same : {A : Type 0} (a : Answer Unit) (old : List A) {new other : List A} → (a ≡ given tt → new ≡ other)
    → changed_if a old new ≡ changed_if a old other
changed-same (refused_in n t p) old h = refl
changed-same (given tt) old h = h refl

-- ---- a place that fits 32 bits

-- of a test that refuses at place 0, and of what comes where it is passed
pub placed-test : {A : Type 0} (t : Bool) (n : ℕ) (rest : Answer A) → (t ≡ false → Placed rest) → Placed (cond t (refused n 0) rest)
placed-test true n rest h = omega arith
placed-test false n rest h = h refl

pub placed-in : {A : Type 0} (t : Trace) (a : Answer A) → Placed a → Placed (in_trace t a)
placed-in t (refused_in n s p) h = h
placed-in t (given x) h = h

-- a place that fits is told as it is, and one past it as the last that does
pub told-placed : {A : Type 0} (a : Answer A) → Placed a → told a ≡ a
told-placed (refused_in n t p) h = ap (refused_in n t) (omega arith)
told-placed (given x) h = refl

pub told-past : {A : Type 0} (number trace place : ℕ) → 2 ^ 32 ≤ place → told {A = A} (refused_in number trace place) ≡ refused_in number trace (2 ^ 32 - 1)
told-past number trace place h = ap (refused_in number trace) (omega arith)

pub placed-told : {A : Type 0} (a : Answer A) → Placed (told a)
placed-told (refused_in n t p) = omega arith
placed-told (given x) = tt

pub placed-then : {A : Type 0} (a : Answer Unit) (b : Answer A) → Placed a → (a ≡ given tt → Placed b) → Placed (a and_then b)
placed-then (refused_in n t p) b h k = h
placed-then (given tt) b h k = k refl
