-- Document 01, "Snapshot, 68 bytes": a state as a row of numbers, the row's bytes, and back. A signed number is in the row by its bits.
use Rattle.std.specs.Prelude.{List, [], ◌∷◌, ◌++◌, ℕ, ◌+◌, get_or, drop}
use Rattle.std.specs.Int.{w16, w32}
use Rattle.word.specs.LittleEndian.{number_at}
use Rattle.word.specs.TwosComplement.{signed, unsigned}
use Rattle.word.specs.Layouts.{pack, unpack}
use Rattle.counter.specs.declared.state.Settings.{Settings}
use Rattle.counter.specs.declared.state.Counter.{Counter}
use Rattle.counter.specs.declared.desk.Desk.{Desk}
use Rattle.counter.specs.Desk.{desk_of, first, second, queued_of}
use Rattle.snapshot.specs.Widths.{snapshot_layout}
use Rattle.snapshot.specs.Places.{mode_at, hip_at, lop_at, ovf_at, unf_at, omb_at, hpo_at, lpo_at}
use Rattle.snapshot.specs.Places.{active_at, acc_at, out_at, er_at, flags_at, levels_at, running_at, first_at, second_at}
use Rattle.snapshot.specs.Places.{active_index, acc_index, out_index, er_index, flags_index, levels_index, running_index, first_index, second_index}

-- ---- from a state to bytes

abbrev pub settings_row : Settings → List ℕ
settings_row s =
    unsigned w16 s.pfn
    ∷ unsigned w16 s.mode
    ∷ unsigned w32 s.hip
    ∷ unsigned w32 s.lop
    ∷ unsigned w32 s.ovf
    ∷ unsigned w32 s.unf
    ∷ s.omb
    ∷ s.hpo
    ∷ s.lpo
    ∷ []

abbrev pub other_row : Counter → List ℕ
other_row c =
    unsigned w32 c.acc
    ∷ c.out
    ∷ c.er
    ∷ c.flags
    ∷ c.levels
    ∷ c.desk.running
    ∷ first c.desk
    ∷ second c.desk
    ∷ []

abbrev pub row_of : Counter → List ℕ
row_of c = settings_row c.staged ++ (settings_row c.active ++ other_row c)

unfoldable pub encode : Counter → List ℕ
encode c = pack snapshot_layout (row_of c)

-- ---- from bytes to a state

-- the settings in the first nine numbers of a row
abbrev pub settings_of : List ℕ → Settings
settings_of r =
    record {
      pfn = signed w16 (get_or r 0 0);
      mode = signed w16 (get_or r 1 0);
      hip = signed w32 (get_or r 2 0);
      lop = signed w32 (get_or r 3 0);
      ovf = signed w32 (get_or r 4 0);
      unf = signed w32 (get_or r 5 0);
      omb = get_or r 6 0;
      hpo = get_or r 7 0;
      lpo = get_or r 8 0;
    }

-- the desk by the running cause and the two waiting ones, 0 for none
abbrev pub desk_by : ℕ → ℕ → ℕ → Desk
desk_by running first second = desk_of running (first ∷ second ∷ []) (queued_of first second)

abbrev pub state_of : List ℕ → Counter
state_of r =
    record {
      staged = settings_of r;
      active = settings_of (drop active_index r);
      acc = signed w32 (get_or r acc_index 0);
      out = get_or r out_index 0;
      er = get_or r er_index 0;
      flags = get_or r flags_index 0;
      levels = get_or r levels_index 0;
      desk = desk_by (get_or r running_index 0) (get_or r first_index 0) (get_or r second_index 0);
    }

unfoldable pub decode : List ℕ → Counter
decode b = state_of (unpack snapshot_layout b)

-- ---- the same by document 01's byte offsets, in a list of bytes from byte at

abbrev pub settings_at : List ℕ → ℕ → Settings
settings_at s at =
    record {
      pfn = signed w16 (number_at s at 2);
      mode = signed w16 (number_at s (at + mode_at) 2);
      hip = signed w32 (number_at s (at + hip_at) 4);
      lop = signed w32 (number_at s (at + lop_at) 4);
      ovf = signed w32 (number_at s (at + ovf_at) 4);
      unf = signed w32 (number_at s (at + unf_at) 4);
      omb = number_at s (at + omb_at) 2;
      hpo = number_at s (at + hpo_at) 2;
      lpo = number_at s (at + lpo_at) 2;
    }

abbrev pub desk_at : List ℕ → ℕ → Desk
desk_at s at = desk_by (number_at s (at + running_at) 1) (number_at s (at + first_at) 1) (number_at s (at + second_at) 1)

abbrev pub state_at : List ℕ → ℕ → Counter
state_at s at =
    record {
      staged = settings_at s at;
      active = settings_at s (at + active_at);
      acc = signed w32 (number_at s (at + acc_at) 4);
      out = number_at s (at + out_at) 2;
      er = number_at s (at + er_at) 2;
      flags = number_at s (at + flags_at) 4;
      levels = number_at s (at + levels_at) 1;
      desk = desk_at s at;
    }
