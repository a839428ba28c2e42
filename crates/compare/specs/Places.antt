-- Document 02, request 1: "each place within the shorter where the kind, sub or value differ, stamps disregarded", "rising".
use Rattle.std.specs.Prelude.{Bool, cond, ◌&&◌, List, [], ◌∷◌, ◌⊎◌, ◌≡◌, ℕ, zero, suc, ◌*◌, ◌<◌, min, eqb, length, take}
use Rattle.word.specs.Part.{part}
use Rattle.word.specs.TwosComplement.{eq_z}
use Rattle.snapshot.specs.declared.event.Event.{Event}
use Rattle.snapshot.specs.Widths.{event_size}
use Rattle.snapshot.specs.EventBytes.{event_of}
use Rattle.image.specs.Rows.{events_in}

-- ---- a trace's events

-- kind, sub and value of event i
abbrev pub event_at : List ℕ → ℕ → Event
event_at trace i = event_of (part trace (i * event_size) event_size)

-- ---- where two traces differ

-- whether kind, sub and value are the same
abbrev pub same_event : Event → Event → Bool
same_event e f = eqb e.kind f.kind && eqb e.sub f.sub && eq_z e.value f.value

unfoldable pub same_at : List ℕ → List ℕ → ℕ → Bool
same_at first second i = same_event (event_at first i) (event_at second i)

-- of the n places from i on, those where the events differ
unfoldable pub differing : List ℕ → List ℕ → ℕ → ℕ → List ℕ
differing first second i zero = []
differing first second i (suc n) =
    cond (same_at first second i) (differing first second (suc i) n) (i ∷ differing first second (suc i) n)

-- how many places there are within the shorter
abbrev pub shared : List ℕ → List ℕ → ℕ
shared first second = min (events_in first) (events_in second)

abbrev pub differences : List ℕ → List ℕ → List ℕ
differences first second = differing first second 0 (shared first second)

-- ---- what a reader asks of such a list

infix 4 ◌∈◌
-- a number that stands in a list
unfoldable pub ◌∈◌ : ℕ → List ℕ → Type 0
i ∈ [] = ⊥
i ∈ (x ∷ l) = (i ≡ x) ⊎ (i ∈ l)

-- each number is below those after it
unfoldable pub Rising : List ℕ → Type 0
Rising [] = Unit
Rising (x ∷ l) = ((i : ℕ) → i ∈ l → x < i) × Rising l

-- place i is below both lengths, and the events there differ in kind, sub or value
pub record DiffersAt (first second : List ℕ) (i : ℕ) : Type 0 where
  pub within-first : i < events_in first
  pub within-second : i < events_in second
  pub other : event_at first i ≡ event_at second i → ⊥

-- as many bytes, and the same 8 before each event's stamp
pub record SameButStamps (a b : List ℕ) : Type 0 where
  pub long : length a ≡ length b
  pub before-stamp : (i : ℕ) → i < events_in a → take 8 (part a (i * event_size) event_size) ≡ take 8 (part b (i * event_size) event_size)
