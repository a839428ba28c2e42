-- A state while events are taken: a snapshot's bytes, and beside them the numbers that nearly every event moves, which count instead of
-- those in the snapshot.
use Rattle.std.specs.Prelude.{◌≡◌, List, [], ◌∷◌, ℕ}
use Rattle.std.specs.Int.{w32}
use Rattle.word.specs.LittleEndian.{number_at}
use Rattle.word.specs.TwosComplement.{signed, unsigned}
use Rattle.word.specs.Layouts.{unpack, replace}
use Rattle.counter.specs.declared.state.Counter.{Counter}
use Rattle.counter.specs.Parts.{with_acc, with_flags, with_levels}
use Rattle.counter.specs.WellFormed.{Good}
use Rattle.snapshot.specs.declared.split.Moving.{Moving}
use Rattle.snapshot.specs.Places.{moving_flags_at, moving_levels_at}
use Rattle.snapshot.specs.Widths.{snapshot_layout, moving_indices, moving_layout}
use Rattle.snapshot.specs.Snapshots.{state_of}

-- the state that the two hold
unfoldable pub split_state : List ℕ → List ℕ → Counter
split_state b m = state_of (replace moving_indices (unpack moving_layout m) (unpack snapshot_layout b))

-- ---- the numbers beside the snapshot, as code holds them

-- in their bytes
abbrev pub moving_at : List ℕ → Moving
moving_at m =
    record { acc = signed w32 (number_at m 0 4); flags = number_at m moving_flags_at 4; levels = number_at m moving_levels_at 1 }

abbrev pub moving_row : Moving → List ℕ
moving_row m = unsigned w32 m.acc ∷ m.flags ∷ m.levels ∷ []

-- those of a state, and the state with others
abbrev pub moving_of : Counter → Moving
moving_of c = record { acc = c.acc; flags = c.flags; levels = c.levels }

abbrev pub with_moving : Moving → Counter → Counter
with_moving m c = with_flags m.flags (with_acc m.acc (with_levels m.levels c))

-- ---- the two after a step

-- if the state is a good one, the two hold it
abbrev pub HoldsIfGood : Counter → List ℕ → List ℕ → Type 0
HoldsIfGood c b m = Good c → split_state b m ≡ c
