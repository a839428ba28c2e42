-- Document 01, "One input sample", with document 02's request 4: edges, reset and hold, the mode's table, and what a count does.
use Rattle.std.specs.Prelude.{Bool, cond, not, ◌&&◌, ◌||◌, ℕ, ◌%◌, eqb, ltb, ℤ, pos, Option, Some, None as no_count}
use Rattle.word.specs.Masks.{bit, set_bit, clear_bit}
use Rattle.accumulator.specs.Count.{Counted, up, down}
use Rattle.accumulator.specs.Causes.{high_preset, underflow, overflow, cause_number}
use Rattle.counter.specs.declared.state.Counter.{Counter}
use Rattle.counter.specs.declared.sampling.Sampled as code
use Rattle.counter.specs.declared.inputs.Count as asked
use Rattle.counter.specs.declared.inputs.Count.TheVariants.{Up as up_way, Down as down_way}
use Rattle.counter.specs.Parts.{CE, DIR, UF, OF, MD, LOADED, with_acc, with_flags, with_levels, flag}
use Rattle.counter.specs.Parts.{up_only, mode}
use Rattle.counter.specs.Interrupts.{raise}

-- ---- what a sample asks for, and what it makes of ACC and of the flags, and the cause that it raises, 0 for none

pub data Count : Type 0 where
  None : Count
  Up : Count
  Down : Count

pub record Sampled : Type 0 where
  pub acc : ℤ
  pub flags : ℕ
  pub cause : ℕ

-- what code answers
abbrev pub count_of : Option asked.Count → Count
count_of (Some up_way) = Up
count_of (Some down_way) = Down
count_of no_count = None

abbrev pub sampled_of : code.Sampled → Sampled
sampled_of r = record { acc = r.acc; flags = r.flags; cause = cause_number r.cause }

-- ---- edges compare stored with new levels

abbrev pub rises : ℕ → ℕ → ℕ → Bool
rises old new n = not (bit old n) && bit new n

abbrev pub falls : ℕ → ℕ → ℕ → Bool
falls old new n = bit old n && not (bit new n)

-- ---- the mode

-- modes 1, 3, 5, 7 have a reset and a hold (input 3)
unfoldable pub has_reset : ℕ → Bool
has_reset m = ltb m 8 && eqb (m % 2) 1

-- a reset in 1, 3, 5: input 2 rises; in 7: input 0 falls, 1 off, 2 on
unfoldable pub reset_by : ℕ → ℕ → ℕ → Bool
reset_by m old new = has_reset m && cond (eqb m 7) (falls old new 0 && not (bit new 1) && bit new 2) (rises old new 2)

-- no count in 1, 3, 5, 7 with the hold on, nor in 7 with input 2 on
unfoldable pub inhibited : ℕ → ℕ → Bool
inhibited m new = has_reset m && (bit new 3 || eqb m 7 && bit new 2)

-- 0, 1: input 0 rises
unfoldable pub alone_up : ℕ → ℕ → Count
alone_up old new = cond (rises old new 0) Up None

-- 2, 3: input 0 rises, up with 1 off, down with 1 on
unfoldable pub by_level : ℕ → ℕ → Count
by_level old new = cond (rises old new 0) (cond (bit new 1) Down Up) None

-- 4, 5: input 0 rises, up; input 1 rises, down; both in one sample: no count (house)
unfoldable pub by_input : ℕ → ℕ → Count
by_input old new = cond (rises old new 0) (cond (rises old new 1) None Up) (cond (rises old new 1) Down None)

-- 6, 7: with 1 off, input 0 rises, up; input 0 falls, down
unfoldable pub by_phase : ℕ → ℕ → Count
by_phase old new = cond (bit new 1) None (cond (rises old new 0) Up (cond (falls old new 0) Down None))

unfoldable pub direction : ℕ → ℕ → ℕ → Count
direction m old new =
    cond (ltb m 2) (alone_up old new)
    (cond (ltb m 4) (by_level old new) (cond (ltb m 6) (by_input old new) (cond (ltb m 8) (by_phase old new) None)))

-- ---- one count: ACC and the cause are those of crate `accumulator`

-- up sets DIR; OF with cause 4, MD with cause 2 in modes 0, 1
unfoldable pub up_flags : Bool → ℕ → ℕ → ℕ
up_flags single cause flags =
    cond (eqb cause overflow) (set_bit (set_bit flags DIR) OF)
    (cond (eqb cause high_preset && single) (set_bit (set_bit flags DIR) MD) (set_bit flags DIR))

-- down clears DIR; UF with cause 3
unfoldable pub down_flags : ℕ → ℕ → ℕ
down_flags cause flags = cond (eqb cause underflow) (set_bit (clear_bit 32 flags DIR) UF) (clear_bit 32 flags DIR)

abbrev pub up_of : Counter → Counted
up_of c = up (up_only (mode c)) c.acc c.active.hip c.active.ovf c.active.unf

abbrev pub down_of : Counter → Counted
down_of c = down c.acc c.active.lop c.active.ovf c.active.unf

abbrev pub sampled_as : ℤ → ℕ → ℕ → Sampled
sampled_as acc flags cause = record { acc = acc; flags = flags; cause = cause }

abbrev pub unmoved : Counter → Sampled
unmoved c = sampled_as c.acc c.flags 0

abbrev pub counted_up : Counter → Sampled
counted_up c = sampled_as (up_of c).acc (up_flags (up_only (mode c)) (up_of c).cause c.flags) (up_of c).cause

abbrev pub counted_down : Counter → Sampled
counted_down c = sampled_as (down_of c).acc (down_flags (down_of c).cause c.flags) (down_of c).cause

unfoldable pub counted_by : Count → Counter → Sampled
counted_by None c = unmoved c
counted_by Up c = counted_up c
counted_by Down c = counted_down c

-- ---- the sample

-- settings are loaded, and the inputs reset in their mode
unfoldable pub resets : ℕ → Counter → Bool
resets new c = flag c LOADED && reset_by (mode c) c.levels new

-- settings are loaded, CE is 1, and no input inhibits the count in their mode
unfoldable pub may_count : ℕ → Counter → Bool
may_count new c = flag c LOADED && flag c CE && not (inhibited (mode c) new)

-- the count of a sample that does not reset
abbrev pub allowed_count : ℕ → Counter → Count
allowed_count new c = cond (may_count new c) (direction (mode c) c.levels new) None

-- the count that a sample makes; a reset makes none
unfoldable pub count : ℕ → Counter → Count
count new c = cond (resets new c) None (cond (may_count new c) (direction (mode c) c.levels new) None)

-- A reset: ACC 0, no count, nothing raised, whatever CE and hold are. Else the count, if there is one.
unfoldable pub sampled : ℕ → Counter → Sampled
sampled new c = cond (resets new c) (sampled_as (pos 0) c.flags 0) (counted_by (count new c) c)

-- ACC and the flags are stored, then the cause is raised
abbrev pub applied : Sampled → Counter → Counter
applied r c = raise r.cause (with_flags r.flags (with_acc r.acc c))

-- new levels are always stored
unfoldable pub sample : ℕ → Counter → Counter
sample new c = applied (sampled new c) (with_levels new c)
