-- The stamp is never read: what an event asks for, and whether it is legal, is a function of the numbers in its first 8 bytes.
use mathlib.Core.Path.{◌≡◌, sym, ap, ◌∙◌}
use mathlib.Core.List.{List, [], ◌∷◌}
use Prim.Native.Nat.{ℕ}
use lib.Dec.{eqb}
use lib.ListN.{take, get_or}
use Rattle.word.specs.Part.{part}
use Rattle.word.specs.Layouts.{total, unpack}
use Rattle.word.proofs.Layouts.{numbers_at, unpack-here}
use Rattle.counter.specs.declared.state.Counter.{Counter}
use Rattle.snapshot.specs.EventBytes.{event_of, reserved_zero, legal_event, step_event}
use Rattle.snapshot.proofs.Offsets.{event_row}

-- kind, sub, zero and value
abbrev read_layout : List ℕ
read_layout = 1 ∷ 1 ∷ 2 ∷ 4 ∷ []

same-numbers : (d e : List ℕ) → take 8 d ≡ take 8 e → numbers_at read_layout d 0 0 ≡ numbers_at read_layout e 0 0
unfolding part total
same-numbers d e h = sym (unpack-here read_layout d 0) ∙ ap (unpack read_layout) h ∙ unpack-here read_layout e 0

pub event-stamp : (d e : List ℕ) → take 8 d ≡ take 8 e → event_of d ≡ event_of e
unfolding event_of
event-stamp d e h = ap event_row (same-numbers d e h)

same-zero : (d e : List ℕ) → take 8 d ≡ take 8 e → reserved_zero d ≡ reserved_zero e
unfolding reserved_zero
same-zero d e h = ap (λ (r : List ℕ). eqb (get_or r 2 0) 0) (same-numbers d e h)

pub legal-stamp : (d e : List ℕ) → take 8 d ≡ take 8 e → legal_event d ≡ legal_event e
unfolding legal_event
legal-stamp d e h = rw (event-stamp d e h, same-zero d e h)

pub step-stamp : (d e : List ℕ) (c : Counter) → take 8 d ≡ take 8 e → step_event d c ≡ step_event e c
unfolding step_event
step-stamp d e c h = rw (event-stamp d e h)
