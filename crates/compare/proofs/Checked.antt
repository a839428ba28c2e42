-- A trace is checked in two parts, the second one beside the first and past it: together they give its verdict.
use mathlib.Core.Path.{◌≡◌, refl, sym, ap, ◌∙◌}
use mathlib.Core.List.{List}
use Prim.Native.Nat.{ℕ, ◌+◌, ◌-◌, ◌*◌, ◌≤◌, ◌<◌}
use native.Mathlib.Nat.{zero-add}
use native.Mathlib.Decide.{dec_lt}
use native.Mathlib.Omega.{arith}
use borrow.Author.Tests.{lt-ltb}
use Rattle.snapshot.specs.Widths.{event_size}
use Rattle.refusal.specs.declared.Refusal.{Refusal}
use Rattle.refusal.specs.declared.Trace.TheVariants.{Second}
use Rattle.refusal.specs.Refusals.{Answer, refused_in, given, trace_number, refusal, in_trace, ◌and_then◌}
use Rattle.refusal.proofs.Answers.{refused-given, in-passed, both-passed}
use Rattle.replay.specs.Events.{first_illegal}
use Rattle.replay.proofs.Scan.{scan-none, scan-first, scan-past, scan-shift}
use Rattle.image.specs.Editions.{base}
use Rattle.image.specs.Rows.{events_in}
use Rattle.image.specs.Verdicts.{events_verdict}
use Rattle.image.proofs.Accepted as scan
use Rattle.image.proofs.Accepted.{all-legal, not-found}
use Rattle.compare.specs.Comparing.{trace_verdict}

-- ---- a check, and a number that is given after it

abbrev without : Answer ℕ → Answer Unit
without (refused_in n t p) = refused_in n t p
without (given x) = given tt

check-refused : (r : Refusal) (a : Answer Unit) (x : ℕ) → refusal r ≡ (a and_then given x) → refusal r ≡ a
check-refused r (refused_in n t p) x e = ap without e
check-refused r (given u) x e = absurd (refused-given e)

-- ---- the first m events: where the check of them stops, and where it ends

module _ (trace : List ℕ) (m i x : ℕ) (e : i ≡ first_illegal base trace 0 0 m) where
  abbrev checked : Answer Unit → Answer ℕ
  checked a = in_trace Second a and_then given x

  pub check-stops : i < m → refused_in 5 (trace_number Second) i ≡ checked (events_verdict base 5 trace 0 m)
  check-stops h = ap checked (scan.found base trace 0 5 m i e h)

  pub check-ends : m ≤ i → (n : ℕ) → n ≡ x → given n ≡ checked (events_verdict base 5 trace 0 m)
  check-ends h n same = ap given same ∙ ap checked (not-found base trace 0 5 m i e h)

-- of no events, none is refused
pub none-refused : (trace : List ℕ) → events_verdict base 5 trace 0 0 ≡ given tt
unfolding events_verdict first_illegal
none-refused trace = refl

-- ---- the whole trace

module _ (trace : List ℕ) (m : ℕ) (within : m ≤ events_in trace) where
  abbrev found : ℕ → ℕ
  found n = first_illegal base trace 0 0 n

  abbrev check : ℕ → Answer Unit
  check n = events_verdict base 5 trace 0 n

  abbrev left : ℕ
  left = events_in trace - m

  all : m + left ≡ events_in trace
  all = omega arith

  -- ---- an illegal event among the first m

  part-refuses : found m < m → check m ≡ check (events_in trace)
  unfolding events_verdict
  part-refuses h =
      let same : found (events_in trace) ≡ found m = rw (← all) (scan-first base trace 0 0 m left (omega arith)) in
      rw (same, lt-ltb (found m) m h, lt-ltb (found m) (events_in trace) (omega arith))

  pub part-refused : (r : Refusal) (x : ℕ) → refusal r ≡ (in_trace Second (check m) and_then given x) → refusal r ≡ trace_verdict Second trace
  unfolding trace_verdict
  part-refused r x e = go (dec_lt (found m) m)
    where
      refuses : refusal r ≡ in_trace Second (check m)
      refuses = check-refused r (in_trace Second (check m)) x e

      go : Dec (found m < m) → refusal r ≡ in_trace Second (check (events_in trace))
      go (yes h) = refuses ∙ ap (in_trace Second) (part-refuses h)
      go (no h) = absurd (refused-given (refuses ∙ ap (in_trace Second) (sym (not-found base trace 0 5 m (found m) refl (omega arith)))))

  -- ---- none there

  pub part-passed : (n x : ℕ) → given n ≡ (in_trace Second (check m) and_then given x) → (check m ≡ given tt) × (n ≡ x)
  part-passed n x e =
      let both = both-passed (in_trace Second (check m)) (given x) (sym e) in
      (in-passed Second (check m) both.0, let same : given x ≡ given n = both.1 in cc)

  pub found-past : check m ≡ given tt → m + first_illegal base trace (m * event_size) 0 left ≡ found (events_in trace)
  found-past e =
      let none : found m ≡ 0 + m = scan-none base trace 0 0 m (λ k l h. all-legal base trace 0 5 m e k (omega arith)) in
      let past : found (m + left) ≡ first_illegal base trace 0 (m + 0) left = scan-past base trace 0 0 m left none ∙ ap from (omega arith) in
      let shift = scan-shift base trace 0 m 0 left in
      sym (ap found (sym all) ∙ past ∙ shift ∙ ap (λ (at : ℕ). m + first_illegal base trace at 0 left) (zero-add (m * event_size)))
    where
      from : ℕ → ℕ
      from i = first_illegal base trace 0 i left
