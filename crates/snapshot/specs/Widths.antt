-- Document 01, "Snapshot, 68 bytes" and "Events, 12 bytes": the numbers in their order, by their widths in bytes.
use Rattle.std.specs.Prelude.{List, [], ◌∷◌, ◌++◌, ℕ, ◌+◌, ◌-◌}
use Rattle.word.specs.Layouts.{pick}
use Rattle.snapshot.specs.declared.TheConstants.{SNAPSHOT_SIZE, EVENT_SIZE, MOVING_SIZE}
use Rattle.snapshot.specs.Places.{acc_index, flags_index, levels_index}

abbrev pub snapshot_size : ℕ
snapshot_size = SNAPSHOT_SIZE

abbrev pub settings_size : ℕ
settings_size = 26

abbrev pub event_size : ℕ
event_size = EVENT_SIZE

-- PFN, MOD, HIP, LOP, OVF, UNF, OMB, HPO, LPO
abbrev pub settings_layout : List ℕ
settings_layout = 2 ∷ 2 ∷ 4 ∷ 4 ∷ 4 ∷ 4 ∷ 2 ∷ 2 ∷ 2 ∷ []

-- ACC, outputs, ER, flags, levels, running, the two waiting
abbrev pub other_layout : List ℕ
other_layout = 4 ∷ 2 ∷ 2 ∷ 4 ∷ 1 ∷ 1 ∷ 1 ∷ 1 ∷ []

-- staged, active, and the rest
abbrev pub snapshot_layout : List ℕ
snapshot_layout = settings_layout ++ (settings_layout ++ other_layout)

-- which numbers of a snapshot's row are held beside it while events are taken: ACC, flags, levels
abbrev pub moving_indices : List ℕ
moving_indices = acc_index ∷ flags_index ∷ levels_index ∷ []

-- side by side, by the widths that they have in the snapshot
abbrev pub moving_layout : List ℕ
moving_layout = pick moving_indices snapshot_layout

abbrev pub moving_size : ℕ
moving_size = MOVING_SIZE

-- kind, sub, zero, value, stamp
abbrev pub event_layout : List ℕ
event_layout = 1 ∷ 1 ∷ 2 ∷ 4 ∷ 4 ∷ []

-- the first and the last byte of each number of a layout that begins at byte at
unfoldable pub spans : List ℕ → ℕ → List (ℕ × ℕ)
spans [] at = []
spans (k ∷ ks) at = (at, at + k - 1) ∷ spans ks (at + k)
