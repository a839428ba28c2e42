-- Document 01, "Snapshot, 68 bytes": well formed, on the numbers at their places in the bytes.
use Rattle.std.specs.Prelude.{Bool, List, ℕ, ◌+◌}
use Rattle.word.specs.LittleEndian.{number_at}
use Rattle.counter.specs.WellFormed.{parts_formed}
use Rattle.snapshot.specs.Places.{active_at, out_at, er_at, flags_at, levels_at, running_at, first_at, second_at}
use Rattle.snapshot.specs.Snapshots.{settings_at}

-- whether the snapshot from byte at is well formed
abbrev pub formed_at : List ℕ → ℕ → Bool
formed_at s at =
    parts_formed (settings_at s (at + active_at)) (number_at s (at + out_at) 2) (number_at s (at + er_at) 2) (number_at s (at + flags_at) 4)
    (number_at s (at + levels_at) 1) (number_at s (at + running_at) 1) (number_at s (at + first_at) 1) (number_at s (at + second_at) 1)

unfoldable pub formed : List ℕ → Bool
formed b = formed_at b 0
