-- Document 01's byte offsets are those of the layouts: a layout's numbers follow one another, so that each offset is a sum of widths.
use mathlib.Core.Path.{◌≡◌, refl, ap, ◌∙◌}
use mathlib.Core.List.{List, [], ◌∷◌}
use Prim.Native.Nat.{ℕ, ◌+◌}
use native.Mathlib.Nat.{add-zero, add_assoc}
use lib.Dec.{eqb}
use lib.ListN.{get_or}
use mir.Syntax.{w32}
use Rattle.word.specs.Part.{part}
use Rattle.word.specs.LittleEndian.{number_at}
use Rattle.word.specs.TwosComplement.{signed}
use Rattle.word.specs.Layouts.{total}
use Rattle.word.proofs.Layouts.{numbers_at, unpack-from, unpack-here, numbers-part}
use Rattle.snapshot.specs.Widths.{snapshot_size, moving_size, event_size, settings_layout, other_layout, snapshot_layout, moving_layout, event_layout, spans}
use Rattle.snapshot.specs.Snapshots.{state_of, state_at, decode}
use Rattle.snapshot.specs.declared.event.Event.{Event}
use Rattle.snapshot.specs.EventBytes.{event_of, reserved_zero}

-- 0-25 staged; 26-51 active; 52-55 ACC; 56-57 outputs; 58-59 ER; 60-63 flags; 64 levels; 65 running; 66, 67 waiting.
-- Kind at byte 0, sub at 1, zero at 2-3, value at 4-7, stamp at 8-11.
pub record Places : Type 0 where
  pub snapshot-size : total snapshot_layout ≡ snapshot_size
  pub moving-size : total moving_layout ≡ moving_size
  pub event-size : total event_layout ≡ event_size
  pub settings-at : spans settings_layout 0 ≡ (0, 1) ∷ (2, 3) ∷ (4, 7) ∷ (8, 11) ∷ (12, 15) ∷ (16, 19) ∷ (20, 21) ∷ (22, 23) ∷ (24, 25) ∷ []
  pub snapshot-at : spans (total settings_layout ∷ total settings_layout ∷ other_layout) 0
      ≡ (0, 25) ∷ (26, 51) ∷ (52, 55) ∷ (56, 57) ∷ (58, 59) ∷ (60, 63) ∷ (64, 64) ∷ (65, 65) ∷ (66, 66) ∷ (67, 67) ∷ []
  pub event-at : spans event_layout 0 ≡ (0, 0) ∷ (1, 1) ∷ (2, 3) ∷ (4, 7) ∷ (8, 11) ∷ []

pub places : Places
unfolding total spans
places = record { snapshot-size = refl; moving-size = refl; event-size = refl; settings-at = refl; snapshot-at = refl; event-at = refl }

-- the state of the layout's numbers is the one at document 01's byte offsets
row-at : (s : List ℕ) (at : ℕ) → state_of (numbers_at snapshot_layout s at 0) ≡ state_at s at
row-at s at = simp (add-zero, add_assoc)

pub decode-places : (b : List ℕ) → decode b ≡ state_at b 0
unfolding decode
decode-places b = ap state_of (unpack-from snapshot_layout b 0 0) ∙ row-at b 0

pub decode-part : (s : List ℕ) (at : ℕ) → decode (part s at snapshot_size) ≡ state_at s at
unfolding decode total
decode-part s at = ap state_of (unpack-here snapshot_layout s at) ∙ row-at s at

-- ---- an event, by the row of its numbers

abbrev pub event_row : List ℕ → Event
event_row r = record { kind = get_or r 0 0; sub = get_or r 1 0; value = signed w32 (get_or r 3 0) }

pub event-part : (s : List ℕ) (at : ℕ)
    → event_of (part s at event_size) ≡ record { kind = number_at s at 1; sub = number_at s (at + 1) 1; value = signed w32 (number_at s (at + 4) 4) }
unfolding event_of total
event-part s at = ap event_row (numbers-part event_layout s at) ∙ simp add-zero

pub zero-part : (s : List ℕ) (at : ℕ) → reserved_zero (part s at event_size) ≡ eqb (number_at s (at + 2) 2) 0
unfolding reserved_zero total
zero-part s at = ap (λ (r : List ℕ). eqb (get_or r 2 0) 0) (numbers-part event_layout s at)
