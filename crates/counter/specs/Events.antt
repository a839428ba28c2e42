-- Document 01, "Events, 12 bytes, little-endian", on a decoded event: which events are legal, and the step of each kind.
use Rattle.std.specs.Prelude.{◌≡◌, Option, Some, None, Bool, true, false, cond, not, ◌&&◌, ◌||◌, ℕ, ◌%◌, eqb, leb, ℤ, pos, negsuc}
use Rattle.std.specs.Int.Signed.{le_z}
use Rattle.std.specs.Int.{w16, w32}
use Rattle.word.specs.Masks.{merge}
use Rattle.word.specs.TwosComplement.{signed, unsigned, eq_z}
use Rattle.counter.specs.declared.event.Event.{Event}
use Rattle.counter.specs.declared.event.Event.TheVariants.{Blank, Sample, StageHip, StageLop, StageOvf, StageUnf, StageHpo, StageLpo}
use Rattle.counter.specs.declared.event.Event.TheVariants.{SetPfn, SetMode, SetOmb, SetAs, Flag, SetAcc, LoadPresets, RoutineDone, EnterRun, Outputs}
use Rattle.counter.specs.declared.state.Settings.{Settings}
use Rattle.counter.specs.declared.state.Counter.{Counter}
use Rattle.counter.specs.Desk.{empty}
use Rattle.counter.specs.Parts.{AS, SP, FE, with_pfn, with_mode, with_hip, with_lop, with_ovf, with_unf, with_omb, with_hpo, with_lpo, with_staged}
use Rattle.counter.specs.Parts.{with_acc, with_out, with_flags, with_desk, flag, on, off}
use Rattle.counter.specs.Flags.{bit_of}
use Rattle.counter.specs.Loading.{first_broken, accepted, rejected, load, preset_load}
use Rattle.counter.specs.Interrupts.{output_mask, quiet, routine_done}
use Rattle.counter.specs.Sample.{sample}

-- ---- legal events: kind, sub and value

abbrev pub in_range : ℕ → ℕ → ℕ → Bool
in_range a b n = leb a n && leb n b

abbrev pub between : ℤ → ℤ → ℤ → Bool
between a b v = le_z a v && le_z v b

abbrev pub is_zero : ℤ → Bool
is_zero v = eq_z v (pos 0)

-- 0 or 1
abbrev pub is_bit : ℤ → Bool
is_bit = between (pos 0) (pos 1)

-- 0-15
abbrev pub is_levels : ℤ → Bool
is_levels = between (pos 0) (pos 15)

-- 0-65535
abbrev pub is_word : ℤ → Bool
is_word = between (pos 0) (pos 65535)

-- -32768 to 32767
abbrev pub is_short : ℤ → Bool
is_short = between (negsuc 32767) (pos 32767)

-- staged write: sub 1 HIP, 2 LOP, 3 OVF, 4 UNF (any), 5 HPO, 6 LPO
unfoldable pub legal_staged : ℕ → ℤ → Bool
legal_staged sub v = cond (in_range 1 4 sub) true (cond (in_range 5 6 sub) (is_word v) false)

-- programming device: sub 1 PFN, 2 MOD, 3 OMB, 4 AS
unfoldable pub legal_device : ℕ → ℤ → Bool
legal_device sub v = cond (in_range 1 2 sub) (is_short v) (cond (eqb sub 3) (is_word v) (cond (eqb sub 4) (is_bit v) false))

-- flag write, sub the flag: 0, 2, 5-10 take 0 or 1; 1, 11-14, 16-18 take 0 only
unfoldable pub takes_bit : ℕ → Bool
takes_bit sub = eqb sub 0 || eqb sub 2 || in_range 5 10 sub

unfoldable pub takes_zero : ℕ → Bool
takes_zero sub = eqb sub 1 || in_range 11 14 sub || in_range 16 18 sub

unfoldable pub legal_flag : ℕ → ℤ → Bool
legal_flag sub v = takes_bit sub && is_bit v || takes_zero sub && is_zero v

-- by kind; where nothing else is listed, sub and value must be 0
unfoldable pub legal : ℕ → ℕ → ℤ → Bool
legal kind sub v =
    cond (eqb kind 0) (eqb sub 0 && is_zero v)
    (cond (eqb kind 1) (eqb sub 0 && is_levels v)
    (cond (eqb kind 2) (legal_staged sub v)
    (cond (eqb kind 3) (legal_device sub v)
    (cond (eqb kind 4) (legal_flag sub v)
    (cond (eqb kind 5) (eqb sub 0)
    (cond (in_range 6 8 kind) (eqb sub 0 && is_zero v) (cond (eqb kind 9) (eqb sub 0 && is_word v) false)))))))

-- a legal input sample
abbrev pub is_sample : ℕ → ℕ → ℤ → Bool
is_sample kind sub v = eqb kind 1 && eqb sub 0 && is_levels v

-- ---- a legal event as code holds it

-- kind, sub and value
pub record Numbers : Type 0 where
  pub kind : ℕ
  pub sub : ℕ
  pub value : ℤ

abbrev pub numbers : ℕ → ℕ → ℤ → Numbers
numbers kind sub v = record { kind = kind; sub = sub; value = v }

abbrev pub bit_value : Bool → ℤ
bit_value level = pos (cond level 1 0)

abbrev pub numbers_of : Event → Numbers
numbers_of Blank = numbers 0 0 (pos 0)
numbers_of (Sample levels) = numbers 1 0 (pos levels)
numbers_of (StageHip v) = numbers 2 1 v
numbers_of (StageLop v) = numbers 2 2 v
numbers_of (StageOvf v) = numbers 2 3 v
numbers_of (StageUnf v) = numbers 2 4 v
numbers_of (StageHpo w) = numbers 2 5 (pos w)
numbers_of (StageLpo w) = numbers 2 6 (pos w)
numbers_of (SetPfn v) = numbers 3 1 v
numbers_of (SetMode v) = numbers 3 2 v
numbers_of (SetOmb w) = numbers 3 3 (pos w)
numbers_of (SetAs level) = numbers 3 4 (bit_value level)
numbers_of (Flag f level) = numbers 4 (bit_of f) (bit_value level)
numbers_of (SetAcc v) = numbers 5 0 v
numbers_of LoadPresets = numbers 6 0 (pos 0)
numbers_of RoutineDone = numbers 7 0 (pos 0)
numbers_of EnterRun = numbers 8 0 (pos 0)
numbers_of (Outputs w) = numbers 9 0 (pos w)

abbrev pub Legal : Event → Type 0
Legal e = legal (numbers_of e).kind (numbers_of e).sub (numbers_of e).value ≡ true

-- the event of these numbers, if they are legal
abbrev pub Parsed : ℕ → ℕ → ℤ → Option Event → Type 0
Parsed kind sub v (Some e) = (legal kind sub v ≡ true) × (numbers_of e ≡ numbers kind sub v)
Parsed kind sub v None = legal kind sub v ≡ false

-- ---- values, cut to their part's width, which a legal value fits

abbrev pub levels_of : ℤ → ℕ
levels_of v = unsigned w32 v % 16

abbrev pub word_of : ℤ → ℕ
word_of v = unsigned w32 v % 65536

abbrev pub short_of : ℤ → ℤ
short_of v = signed w16 (word_of v)

-- ---- the kinds

-- 2: a staged write
unfoldable pub staged : ℕ → ℤ → Settings → Settings
staged sub v s =
    cond (eqb sub 1) (with_hip v s)
    (cond (eqb sub 2) (with_lop v s)
    (cond (eqb sub 3) (with_ovf v s)
    (cond (eqb sub 4) (with_unf v s)
    (cond (eqb sub 5) (with_hpo (word_of v) s)
    (cond (eqb sub 6) (with_lpo (word_of v) s) s)))))

unfoldable pub staged_write : ℕ → ℤ → Counter → Counter
staged_write sub v c = with_staged (staged sub v c.staged) c

-- 3: the programming device's settings, sub 1 to 3
unfoldable pub device : ℕ → ℤ → Settings → Settings
device sub v s =
    cond (eqb sub 1) (with_pfn (short_of v) s)
    (cond (eqb sub 2) (with_mode (short_of v) s) (cond (eqb sub 3) (with_omb (word_of v) s) s))

-- flag n at the value's level
abbrev pub set_to : ℕ → ℤ → Counter → Counter
set_to n v c = cond (is_zero v) (off n c) (on n c)

-- 3: sub 4 is AS
unfoldable pub device_write : ℕ → ℤ → Counter → Counter
device_write sub v c = cond (eqb sub 4) (set_to AS v c) (with_staged (device sub v c.staged) c)

-- 4: SP going 0 to 1
unfoldable pub sp_rises : ℕ → ℤ → Counter → Bool
sp_rises sub v c = eqb sub SP && not (is_zero v) && not (flag c SP)

-- loads; the write is done whether the load is accepted or not
unfoldable pub flag_write : ℕ → ℤ → Counter → Counter
flag_write sub v c = cond (sp_rises sub v c) (load (on SP c)) (set_to sub v c)

-- 8: LPI, HPI, UFI, OFI go to 0, running and waiting are emptied
abbrev pub emptied : Counter → Counter
emptied c = with_desk empty (with_flags (quiet c.flags) c)

-- a load, and FE 1 if accepted
unfoldable pub auto_start : Counter → Counter
auto_start c = cond (eqb (first_broken c.staged) 0) (on FE (accepted c)) (rejected (first_broken c.staged) c)

-- then, if AS, a load
unfoldable pub enter_run : Counter → Counter
enter_run c = cond (flag c AS) (auto_start (emptied c)) (emptied c)

-- 9: outputs not in active OMB take the value's bits, the others stay
unfoldable pub program_word : ℕ → ℕ → ℕ → ℕ
program_word omb word out = merge 16 (output_mask omb) out (word % 4096)

abbrev pub output_write : ℤ → Counter → Counter
output_write v c = with_out (program_word c.active.omb (word_of v) c.out) c

-- ---- the step; an event that is not legal changes nothing

-- every kind but a sample
unfoldable pub control : ℕ → ℕ → ℤ → Counter → Counter
control kind sub v c =
    cond (eqb kind 2) (staged_write sub v c)
    (cond (eqb kind 3) (device_write sub v c)
    (cond (eqb kind 4) (flag_write sub v c)
    (cond (eqb kind 5) (with_acc v c)
    (cond (eqb kind 6) (preset_load c)
    (cond (eqb kind 7) (routine_done c)
    (cond (eqb kind 8) (enter_run c)
    (cond (eqb kind 9) (output_write v c) c)))))))

-- the same of an event as code holds it
abbrev pub controlled : Event → Counter → Counter
controlled e c = control (numbers_of e).kind (numbers_of e).sub (numbers_of e).value c

unfoldable pub step : ℕ → ℕ → ℤ → Counter → Counter
step kind sub v c = cond (legal kind sub v) (cond (eqb kind 1) (sample (levels_of v) c) (control kind sub v c)) c

-- the step where no sample is asked for
unfoldable pub step_control : ℕ → ℕ → ℤ → Counter → Counter
step_control kind sub v c = cond (legal kind sub v) (control kind sub v c) c
