-- Drawing beside stepping and reading: one event drawn is the step, and many leave what so many steps leave, each number being what
-- reading then shows.
use mathlib.Core.Path.{◌≡◌, refl, sym, ap, ◌∙◌}
use mathlib.Core.Bool.{Bool, true, false, cond, not, ◌||◌}
use mathlib.Core.List.{List, []}
use Prim.Native.Nat.{ℕ, zero, suc, ◌+◌, ◌-◌, ◌*◌, ◌/◌, ◌%◌, ◌≤◌, ◌<◌}
use native.Mathlib.Nat.{zero-add}
use native.Mathlib.Omega.{arith}
use borrow.Author.Tests.{eqb-true, eqb-false, eq-eqb, ne_eqb}
use lib.Dec.{eqb, ltb}
use lib.IntN.{ℤ}
use lib.ListN.{length, get_or}
use Rattle.word.specs.Part.{Bytes, part}
use Rattle.word.proofs.Part.{length-part, part-whole}
use Rattle.refusal.specs.Refusals.{Answer, refused_in, refused, given, told, ◌and_then◌, changed_if}
use Rattle.refusal.proofs.Answers.{changed-same}
use Rattle.replay.specs.Events.{first_illegal, run}
use Rattle.replay.proofs.Run.{run-one}
use Rattle.counter.specs.declared.state.Counter.{Counter}
use Rattle.counter.specs.WellFormed.{Good}
use Rattle.snapshot.specs.Widths.{snapshot_size, event_size}
use Rattle.snapshot.specs.Snapshots.{encode, decode}
use Rattle.snapshot.specs.FormedBytes.{formed}
use Rattle.snapshot.specs.EventBytes.{legal_event}
use Rattle.snapshot.proofs.RoundTrip.{length-encode, decode-encode, encode-decode, formed-encode}
use Rattle.image.specs.declared.edition.Edition.TheVariants.{Base}
use Rattle.image.specs.Editions.{base}
use Rattle.image.specs.Rows.{events_in}
use Rattle.image.specs.Verdicts.{events_verdict}
use Rattle.draw.specs.Drawing.{sizes_verdict, legal_verdict, form_verdict, draw_verdict, draw_snapshot, draw_row}
use Rattle.draw.proofs.Accepted.{Drawable, drawn}
use Rattle.draw.proofs.Left.{snapshot-left, row-at, after-good}
use Rattle.hsc.specs.Fields.{fields_of}
use Rattle.hsc.specs.Calls.{event_verdict, step_verdict, step_after, steps_after, read_verdict, read_after}
use Rattle.hsc.proofs.Done.{step-passed}

-- ---- no events

-- what reading answers, and the snapshot as it was
pub draw-none : (s : List ℕ) → draw_verdict Base s [] 0 ≡ read_verdict s
unfolding draw_verdict sizes_verdict legal_verdict events_verdict first_illegal form_verdict read_verdict
draw-none s = go (eqb (length s) snapshot_size)
  where
    of-snapshot : Answer Unit
    of-snapshot = cond (not (formed s)) (refused 6 0) (given tt)

    go : (p : Bool) → (cond ((not p || false) || false) (refused 9 0) (given tt) and_then of-snapshot) ≡ cond (not p) (refused 9 0) of-snapshot
    go true = refl
    go false = refl

pub draw-none-after : (s : List ℕ) → Bytes s → draw_snapshot Base s [] 0 ≡ s
unfolding run
draw-none-after s bytes =
    changed-same (draw_verdict Base s [] 0) s (λ v. encode-decode s bytes (drawn Base s [] 0 v).sized) ∙ unchanged (draw_verdict Base s [] 0)
  where
    unchanged : (a : Answer Unit) → changed_if a s s ≡ s
    unchanged (refused_in n t p) = refl
    unchanged (given u) = refl

-- ---- one event

-- a row of one number goes with 12 bytes of events alone
one-each : (l : ℕ) → not (eqb (l % event_size) 0) || not (eqb 1 (l / event_size)) ≡ not (eqb l event_size)
one-each l = go (eqb l event_size) refl (eqb (l % event_size) 0) refl
  where
    go : (b : Bool) → eqb l event_size ≡ b → (w : Bool) → eqb (l % event_size) 0 ≡ w → not w || not (eqb 1 (l / event_size)) ≡ not b
    go true h w k =
        let twelve : l ≡ event_size = eqb-true l event_size h in
        let none : w ≡ true = sym k ∙ eq-eqb (l % event_size) 0 (omega (arith, twelve)) in
        rw (none, eq-eqb 1 (l / event_size) (omega (arith, twelve)))
    go false h false k = refl
    go false h true k = rw (ne_eqb 1 (l / event_size) (λ one. eqb-false l event_size h (omega (arith, one, eqb-true (l % event_size) 0 k))))

module _ (s e : List ℕ) where
  -- 9
  sizes-one : sizes_verdict Base s e 1 ≡ cond (not (eqb (length s) snapshot_size) || not (eqb (length e) event_size)) (refused 9 0) (given tt)
  unfolding sizes_verdict
  sizes-one = go (not (eqb (length s) snapshot_size))
    where
      bad : Bool → Answer Unit
      bad t = cond t (refused 9 0) (given tt)

      go : (p : Bool) → bad ((p || not (eqb (length e % event_size) 0)) || not (eqb 1 (events_in e))) ≡ bad (p || not (eqb (length e) event_size))
      go true = refl
      go false = ap bad (one-each (length e))

  -- 5, where the event has its 12 bytes
  legal-one : length e ≡ event_size → legal_verdict Base e ≡ cond (not (legal_event e)) (refused 5 0) (given tt)
  unfolding legal_verdict events_verdict first_illegal
  legal-one whole =
      let one : length e / event_size ≡ 1 = omega (arith, whole) in
      rw (one, part-whole e event_size whole) (go (legal_event e))
    where
      go : (b : Bool) → told {A = Unit} (cond (ltb (cond b 1 0) 1) (refused 5 (cond b 1 0)) (given tt)) ≡ cond (not b) (refused 5 0) (given tt)
      go true = refl
      go false = refl

  -- the same answer, whatever was lent
  pub draw-one : draw_verdict Base s e 1 ≡ step_verdict s e
  unfolding draw_verdict form_verdict step_verdict
  draw-one = rw sizes-one (go (eqb (length s) snapshot_size) (eqb (length e) event_size) refl)
    where
      of-snapshot : Answer Unit
      of-snapshot = cond (not (formed s)) (refused 6 0) (given tt)

      after-legal : (b : Bool) → (cond (not b) (refused 5 0) (given tt) and_then of-snapshot) ≡ cond (not b) (refused 5 0) of-snapshot
      after-legal true = refl
      after-legal false = refl

      go : (p q : Bool) → eqb (length e) event_size ≡ q
          → (cond (not p || not q) (refused 9 0) (given tt) and_then legal_verdict Base e and_then of-snapshot)
          ≡ cond (not p) (refused 9 0) (cond (not q) (refused 9 0) (event_verdict s e))
      go false q h = refl
      go true false h = refl
      go true true h = rw (legal-one (eqb-true (length e) event_size h)) (after-legal (legal_event e))

  -- and the same snapshot
  pub draw-one-after : draw_snapshot Base s e 1 ≡ step_after s e
  draw-one-after =
      ap (λ (a : Answer Unit). changed_if a s (encode (run base (decode s) e 0 (events_in e)))) draw-one
      ∙ changed-same (step_verdict s e) s λ v.
      let whole = (step-passed s e v).event in
      let one : events_in e ≡ 1 = omega (arith, whole) in
      ap encode (ap (run base (decode s) e 0) one ∙ run-one base (decode s) e whole)

-- ---- many events

module _ (s events : List ℕ) (row : List ℤ) (v : draw_verdict Base s events (length row) ≡ given tt) (bytes-s : Bytes s) (bytes-e : Bytes events) where
  can : Drawable Base s events (length row)
  can = drawn Base s events (length row) v

  -- the state after n of them
  abbrev state : ℕ → Counter
  state n = run base (decode s) events 0 n

  good : (n : ℕ) → n ≤ length row → Good (state n)
  good = after-good Base s events can bytes-s bytes-e

  abbrev event_bytes : ℕ → List ℕ
  event_bytes n = part events (n * event_size) event_size

  -- a step from there
  step-from : (n : ℕ) → n < length row → step_verdict (encode (state n)) (event_bytes n) ≡ given tt
  unfolding step_verdict
  step-from n h =
      let inside : n * event_size + event_size ≤ length events = omega (arith, can.whole) in
      rw (
        eq-eqb (length (encode (state n))) snapshot_size (length-encode (state n)),
        eq-eqb (length (event_bytes n)) event_size (length-part events (n * event_size) event_size inside),
        legal-at n h,
        formed-encode (state n) (good n (omega arith)),
      )
    where
      legal-at : (k : ℕ) → k < length row → legal_event (event_bytes k) ≡ true
      legal-at k l = rw zero-add at (can.legal k l)

  -- n steps
  steps-state : (n : ℕ) → n ≤ length row → steps_after s events n ≡ encode (state n)
  unfolding steps_after run
  steps-state zero h = sym (encode-decode s bytes-s can.sized)
  steps-state (suc n) h =
      let one : step_after (encode (state n)) (event_bytes n) ≡ encode (state (suc n)) =
      rw (step-from n (omega arith), decode-encode (state n) (good n (omega arith)), zero-add) in
      ap (λ (t : List ℕ). step_after t (event_bytes n)) (steps-state n (omega arith)) ∙ one

  -- no step is refused, and all of them leave what drawing leaves
  pub steps-taken : (i : ℕ) → i < length row → step_verdict (steps_after s events i) (event_bytes i) ≡ given tt
  steps-taken i h = ap (λ (t : List ℕ). step_verdict t (event_bytes i)) (steps-state i (omega arith)) ∙ step-from i h

  pub draw-steps : draw_snapshot Base s events (length row) ≡ steps_after s events (length row)
  draw-steps = snapshot-left Base s events can ∙ sym (steps-state (length row) (omega arith))

  -- ---- the row, read

  shown : (n : ℕ) → n ≤ length row → (fields : List ℤ) (d : ℤ) → get_or (read_after (steps_after s events n) fields) 18 d ≡ (state n).acc
  unfolding read_verdict fields_of
  shown n h fields d =
      rw (
        steps-state n h,
        eq-eqb (length (encode (state n))) snapshot_size (length-encode (state n)),
        formed-encode (state n) (good n h),
        decode-encode (state n) (good n h),
      )

  -- each number is the ACC that reading shows after so many steps
  pub row-shown : (i : ℕ) → i < length row → (fields : List ℤ) (d : ℤ)
      → get_or (draw_row Base s events row) i d ≡ get_or (read_after (steps_after s events (i + 1)) fields) 18 d
  row-shown i h fields d =
      row-at Base s events can row refl i d h ∙ sym (shown (i + 1) (omega arith) fields d)

  -- the last one, that which reading shows of the snapshot left
  pub last-shown : 0 < length row → (fields : List ℤ) (d : ℤ)
      → get_or (draw_row Base s events row) (length row - 1) d ≡ get_or (read_after (draw_snapshot Base s events (length row)) fields) 18 d
  last-shown some fields d =
      let all : length row - 1 + 1 ≡ length row = omega arith in
      row-shown (length row - 1) (omega arith) fields d
      ∙ ap (λ (n : ℕ). get_or (read_after (steps_after s events n) fields) 18 d) all
      ∙ ap (λ (t : List ℕ). get_or (read_after t fields) 18 d) (sym draw-steps)
