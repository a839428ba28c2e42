-- What a verdict that refuses nothing says of the buffers: their lengths are right, and a snapshot to step is well formed. Every refusal
-- of a step or a reading is at place 0.
use mathlib.Core.Path.{◌≡◌, sym, ap}
use mathlib.Core.Bool.{Bool, true, false, not, false≢true}
use mathlib.Core.List.{List}
use Prim.Native.Nat.{ℕ}
use borrow.Author.Tests.{eqb-true, not-false}
use lib.Dec.{eqb}
use lib.ListN.{length}
use Rattle.snapshot.specs.Widths.{snapshot_size, event_size}
use Rattle.snapshot.specs.FormedBytes.{formed}
use Rattle.snapshot.specs.EventBytes.{legal_event}
use Rattle.std.specs.Prelude.{Result, Ok, Err, is_ok}
use Rattle.refusal.specs.declared.Refusal.{Refusal}
use Rattle.refusal.specs.Refusals.{Answer, given, answer_of, Placed, changed_if}
use Rattle.refusal.proofs.Answers.{passed, placed-test}
use Rattle.hsc.specs.Calls.{step_verdict, read_verdict}

-- a verdict that is `Ok` refuses nothing, and one that is not leaves what was lent
pub ok-passed : (v : Result Unit Refusal) {a : Answer Unit} → answer_of v ≡ a → is_ok v ≡ true → a ≡ given tt
ok-passed (Ok x) e t = sym e
ok-passed (Err r) e t = absurd (false≢true t)

pub err-kept : {A : Type 0} (v : Result Unit Refusal) {a : Answer Unit} (old new : List A) → answer_of v ≡ a → is_ok v ≡ false → old ≡ changed_if a old new
err-kept (Ok x) old new e t = absurd (false≢true (sym t))
err-kept (Err r) old new e t = ap (λ (a : Answer Unit). changed_if a old new) e

-- a step that is not refused
pub record Steps (s e : List ℕ) : Type 0 where
  pub snapshot : length s ≡ snapshot_size
  pub formed : formed s ≡ true
  pub event : length e ≡ event_size

module _ (s e : List ℕ) where
  abbrev long : Bool
  long = eqb (length s) snapshot_size

  abbrev whole : Bool
  whole = eqb (length e) event_size

  pub step-passed : step_verdict s e ≡ given tt → Steps s e
  unfolding step_verdict
  step-passed v =
      let one = passed (not long) 9 0 _ v in
      let two = passed (not whole) 9 0 _ one.1 in
      let three = passed (not (legal_event e)) 5 0 _ two.1 in
      let four = passed (not (formed s)) 6 0 (given tt) three.1 in
      record {
        snapshot = eqb-true (length s) snapshot_size (not-false long one.0);
        formed = not-false (formed s) four.0;
        event = eqb-true (length e) event_size (not-false whole two.0);
      }

  pub step-placed : Placed (step_verdict s e)
  unfolding step_verdict
  step-placed =
      placed-test (not long) 9 _ λ _.
      placed-test (not whole) 9 _ λ _.
      placed-test (not (legal_event e)) 5 _ λ _.
      placed-test (not (formed s)) 6 (given tt) λ _. tt

pub read-passed : (s : List ℕ) → read_verdict s ≡ given tt → length s ≡ snapshot_size
unfolding read_verdict
read-passed s v =
    let long : Bool = eqb (length s) snapshot_size in
    eqb-true (length s) snapshot_size (not-false long (passed (not long) 9 0 _ v).0)

pub read-placed : (s : List ℕ) → Placed (read_verdict s)
unfolding read_verdict
read-placed s = placed-test (not (eqb (length s) snapshot_size)) 9 _ λ _. placed-test (not (formed s)) 6 (given tt) λ _. tt
