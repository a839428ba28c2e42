-- Two legal events have the same kind, sub and value exactly where the 8 bytes before their stamps are the same number; and an event with the
-- bytes of a legal one is legal.
use mathlib.Core.Path.{◌≡◌, refl, sym, ap, ap₂, ◌∙◌}
use mathlib.Core.Bool.{Bool, true, false, ◌&&◌, false≢true}
use mathlib.Core.List.{List}
use Prim.Native.Nat.{ℕ, ◌+◌, ◌*◌, ◌^◌, ◌≤◌}
use native.Mathlib.Nat.{add-zero}
use native.Mathlib.Omega.{arith}
use borrow.Author.Tests.{eqb-true, eq-eqb}
use lib.Dec.{eqb}
use lib.ListN.{length, take}
use lib.Seq.{length-take-le}
use mir.Syntax.{w32}
use mir.Val.{Fits}
use mir.Facts.{to_z_inj}
use Rattle.word.specs.Part.{Bytes, part}
use Rattle.word.specs.LittleEndian.{to_bytes, of_bytes, number_at}
use Rattle.word.specs.TwosComplement.{eq_z}
use Rattle.word.proofs.Part.{part-part, length-part, bytes-part, bytes-take}
use Rattle.word.proofs.LittleEndian.{number_at-lt, number_at-add, to_bytes-of_bytes}
use Rattle.word.proofs.Branches.{agree, eq_z-true, eq_z-refl}
use Rattle.snapshot.specs.declared.event.Event.{Event}
use Rattle.snapshot.specs.Widths.{event_size}
use Rattle.snapshot.specs.EventBytes.{event_of, reserved_zero, legal_event}
use Rattle.snapshot.proofs.Stamp.{event-stamp, legal-stamp}
use Rattle.compare.specs.Places.{event_at, same_event, same_at}

-- ---- kind, sub and value

both : (a b : Bool) → a && b ≡ true → (a ≡ true) × (b ≡ true)
both true true e = (refl, refl)
both true false e = absurd (false≢true e)
both false b e = absurd (false≢true e)

same-event : (d e : Event) → same_event d e ≡ true → d ≡ e
same-event d e t =
    let one = both (eqb d.kind e.kind && eqb d.sub e.sub) (eq_z d.value e.value) t in
    let two = both (eqb d.kind e.kind) (eqb d.sub e.sub) one.0 in
    let kind = eqb-true d.kind e.kind two.0 in
    let sub = eqb-true d.sub e.sub two.1 in
    let value = eq_z-true d.value e.value one.1 in
    λ i. record { kind = kind i; sub = sub i; value = value i }

event-same : (d e : Event) → d ≡ e → same_event d e ≡ true
event-same d e p =
    sym (ap (same_event d) p) ∙ rw (eq-eqb d.kind d.kind refl, eq-eqb d.sub d.sub refl, eq_z-refl d.value)

module _ (first second : List ℕ) (i : ℕ) where
  pub same-at : same_at first second i ≡ true → event_at first i ≡ event_at second i
  unfolding same_at
  same-at = same-event (event_at first i) (event_at second i)

  pub at-same : event_at first i ≡ event_at second i → same_at first second i ≡ true
  unfolding same_at
  at-same = event-same (event_at first i) (event_at second i)

  pub other-at : (event_at first i ≡ event_at second i → ⊥) → same_at first second i ≡ false
  other-at h = go (same_at first second i) refl
    where
      go : (b : Bool) → same_at first second i ≡ b → b ≡ false
      go true e = absurd (h (same-at e))
      go false e = refl

-- ---- the 8 bytes before the stamp, as one number

-- the bytes of an event
pub record Whole (e : List ℕ) : Type 0 where
  pub long : length e ≡ event_size
  pub bytes : Bytes e

module _ (d e : List ℕ) (v : Whole d) (w : Whole e) where
  -- the same number has the same bytes
  front-bytes : number_at d 0 8 ≡ number_at e 0 8 → take 8 d ≡ take 8 e
  unfolding part
  front-bytes same =
      let long : length (take 8 d) ≡ length (take 8 e) =
      length-take-le 8 d (omega (arith, v.long)) ∙ sym (length-take-le 8 e (omega (arith, w.long))) in
      sym (to_bytes-of_bytes (take 8 d) (bytes-take 8 d v.bytes))
      ∙ ap₂ to_bytes long same
      ∙ to_bytes-of_bytes (take 8 e) (bytes-take 8 e w.bytes)

  -- so beside a legal event the other is legal too
  front-legal : number_at d 0 8 ≡ number_at e 0 8 → legal_event d ≡ true → legal_event e ≡ true
  front-legal same legal = sym (legal-stamp d e (front-bytes same)) ∙ legal

-- of a legal event, by its kind, sub and value
module _ (e : List ℕ) (w : Whole e) (legal : legal_event e ≡ true) where
  reserved : number_at e 2 2 ≡ 0
  unfolding legal_event reserved_zero
  reserved = eqb-true (number_at e 2 2) 0 (both (eqb (number_at e 2 2) 0) _ legal).0

  front : number_at e 0 8 ≡ number_at e 0 1 + 256 * number_at e 1 1 + 2 ^ 32 * number_at e 4 4
  front =
      let one : number_at e 0 8 ≡ number_at e 0 1 + 256 * number_at e 1 7 = number_at-add e 0 1 7 (omega (arith, w.long)) in
      let two : number_at e 1 7 ≡ number_at e 1 1 + 256 * number_at e 2 6 = number_at-add e 1 1 6 (omega (arith, w.long)) in
      let four : number_at e 2 6 ≡ number_at e 2 2 + 65536 * number_at e 4 4 = number_at-add e 2 2 4 (omega (arith, w.long)) in
      omega (arith, one, two, four, reserved)

  value-fits : Fits w32 (number_at e 4 4)
  value-fits = record { fits = number_at-lt e 4 4 w.bytes (omega (arith, w.long)) }

module _ (d e : List ℕ) (v : Whole d) (w : Whole e) (p : legal_event d ≡ true) (q : legal_event e ≡ true) where
  same-front : event_of d ≡ event_of e → number_at d 0 8 ≡ number_at e 0 8
  unfolding event_of
  same-front same =
      let kind : number_at d 0 1 ≡ number_at e 0 1 = ap (λ (x : Event). x.kind) same in
      let sub : number_at d 1 1 ≡ number_at e 1 1 = ap (λ (x : Event). x.sub) same in
      let value : number_at d 4 4 ≡ number_at e 4 4 = to_z_inj {w = w32} (value-fits d v p) (value-fits e w q) (ap (λ (x : Event). x.value) same) in
      omega (arith, front d v p, front e w q, kind, sub, value)

  front-same : eqb (number_at d 0 8) (number_at e 0 8) ≡ same_event (event_of d) (event_of e)
  front-same =
      agree (eqb (number_at d 0 8) (number_at e 0 8)) (same_event (event_of d) (event_of e))
      (λ t. event-same (event_of d) (event_of e) (event-stamp d e (front-bytes d e v w (eqb-true (number_at d 0 8) (number_at e 0 8) t))))
      (λ t. eq-eqb (number_at d 0 8) (number_at e 0 8) (same-front (same-event (event_of d) (event_of e) t)))

-- ---- at a place of a trace

-- an event that lies within the trace
pub record Inside (trace : List ℕ) (i : ℕ) : Type 0 where
  pub inside : i * event_size + event_size ≤ length trace
  pub bytes : Bytes trace

module _ (trace : List ℕ) (i : ℕ) where
  abbrev pub bytes_at : List ℕ
  bytes_at = part trace (i * event_size) event_size

  whole : Inside trace i → Whole bytes_at
  whole h =
      record {
        long = length-part trace (i * event_size) event_size h.inside;
        bytes = bytes-part trace (i * event_size) event_size h.bytes;
      }

  front-at : Inside trace i → number_at trace (i * event_size) 8 ≡ number_at bytes_at 0 8
  front-at h =
      ap of_bytes
      (sym
      (part-part trace (i * event_size) event_size 0 8 h.inside (omega arith) ∙ ap (λ (p : ℕ). part trace p 8) (add-zero (i * event_size))))

module _ (first second : List ℕ) (i : ℕ) (f : Inside first i) (s : Inside second i) (p : legal_event (bytes_at first i) ≡ true) where
  abbrev fronts : Bool
  fronts = eqb (number_at first (i * event_size) 8) (number_at second (i * event_size) 8)

  pub legal-at : fronts ≡ true → legal_event (bytes_at second i) ≡ true
  legal-at t =
      front-legal (bytes_at first i) (bytes_at second i) (whole first i f) (whole second i s)
      (sym (front-at first i f) ∙ eqb-true (number_at first (i * event_size) 8) (number_at second (i * event_size) 8) t ∙ front-at second i s) p

  pub fronts-same : legal_event (bytes_at second i) ≡ true → fronts ≡ same_at first second i
  unfolding same_at
  fronts-same q =
      ap₂ eqb (front-at first i f) (front-at second i s)
      ∙ front-same (bytes_at first i) (bytes_at second i) (whole first i f) (whole second i s) p q
