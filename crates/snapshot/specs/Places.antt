-- Document 01, "Snapshot, 68 bytes" and "Events, 12 bytes": the byte at which each number begins, counted from the first byte of what
-- holds it; and the index of a number in a snapshot's row. The bytes are the code's own constants; `Offsets` proves that they are those of the
-- layouts.
use Rattle.std.specs.Prelude.{ℕ}
use Rattle.snapshot.specs.declared.places.TheConstants.{MODE, HIP, LOP, OVF, UNF, OMB, HPO, LPO}
use Rattle.snapshot.specs.declared.places.TheConstants.{ACTIVE, ACC, OUTPUTS, ER, FLAGS, LEVELS, RUNNING, FIRST, SECOND}
use Rattle.snapshot.specs.declared.places.TheConstants.{SUB, ZERO, VALUE, MOVING_FLAGS, MOVING_LEVELS}

-- ---- in 26 bytes of settings; PFN is the first

abbrev pub mode_at : ℕ
mode_at = MODE

abbrev pub hip_at : ℕ
hip_at = HIP

abbrev pub lop_at : ℕ
lop_at = LOP

abbrev pub ovf_at : ℕ
ovf_at = OVF

abbrev pub unf_at : ℕ
unf_at = UNF

abbrev pub omb_at : ℕ
omb_at = OMB

abbrev pub hpo_at : ℕ
hpo_at = HPO

abbrev pub lpo_at : ℕ
lpo_at = LPO

-- ---- in a snapshot; the staged settings are the first

abbrev pub active_at : ℕ
active_at = ACTIVE

abbrev pub acc_at : ℕ
acc_at = ACC

abbrev pub out_at : ℕ
out_at = OUTPUTS

abbrev pub er_at : ℕ
er_at = ER

abbrev pub flags_at : ℕ
flags_at = FLAGS

abbrev pub levels_at : ℕ
levels_at = LEVELS

abbrev pub running_at : ℕ
running_at = RUNNING

abbrev pub first_at : ℕ
first_at = FIRST

abbrev pub second_at : ℕ
second_at = SECOND

-- ---- beside a snapshot while events are taken; ACC is the first

abbrev pub moving_flags_at : ℕ
moving_flags_at = MOVING_FLAGS

abbrev pub moving_levels_at : ℕ
moving_levels_at = MOVING_LEVELS

-- ---- in an event; the kind is the first, and the stamp is never read

abbrev pub sub_at : ℕ
sub_at = SUB

abbrev pub zero_at : ℕ
zero_at = ZERO

abbrev pub value_at : ℕ
value_at = VALUE

-- ---- in a snapshot's row of numbers; nine staged settings are the first

abbrev pub active_index : ℕ
active_index = 9

abbrev pub acc_index : ℕ
acc_index = 18

abbrev pub out_index : ℕ
out_index = 19

abbrev pub er_index : ℕ
er_index = 20

abbrev pub flags_index : ℕ
flags_index = 21

abbrev pub levels_index : ℕ
levels_index = 22

abbrev pub running_index : ℕ
running_index = 23

abbrev pub first_index : ℕ
first_index = 24

abbrev pub second_index : ℕ
second_index = 25
