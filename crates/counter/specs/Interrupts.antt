-- Document 01, "One input sample", last two paragraphs: outputs by a cause, and causes that become interrupts.
use Rattle.std.specs.Prelude.{Bool, false, cond, ◌&&◌, ℕ, ◌%◌, eqb}
use Rattle.word.specs.Masks.{bit, set_bit, clear_bit, merge}
use Rattle.accumulator.specs.Causes.{low_preset, high_preset, underflow, overflow}
use Rattle.counter.specs.declared.state.Counter.{Counter}
use Rattle.counter.specs.declared.desk.Outcome.{Outcome}
use Rattle.counter.specs.declared.desk.Outcome.TheVariants.{Starts, Waits, Lost}
use Rattle.counter.specs.Desk.{Next, Cause, Nothing, post, finish}
use Rattle.counter.specs.Parts.{UIE, UIL, FE, LPM, HPM, UFM, OFM, LPI, HPI, UFI, OFI, with_out}
use Rattle.counter.specs.Parts.{with_flags, with_desk}

-- ---- outputs

-- the outputs in a mask, among bits 0 to 11
abbrev pub output_mask : ℕ → ℕ
output_mask omb = omb % 4096

-- a preset's word on the outputs in the mask; every other output keeps its level
unfoldable pub preset_word : ℕ → ℕ → ℕ → ℕ
preset_word omb word out = merge 16 (output_mask omb) word out

-- cause 2 puts HPO, cause 1 puts LPO
unfoldable pub cause_word : ℕ → ℕ → ℕ → ℕ → ℕ → ℕ
cause_word cause omb hpo lpo out =
    cond (eqb cause high_preset) (preset_word omb hpo out) (cond (eqb cause low_preset) (preset_word omb lpo out) out)

-- ---- flags

-- the cause's mask is 1
unfoldable pub unmasked : ℕ → ℕ → Bool
unmasked flags cause =
    cond (eqb cause low_preset) (bit flags LPM)
    (cond (eqb cause high_preset) (bit flags HPM) (cond (eqb cause underflow) (bit flags UFM) (cond (eqb cause overflow) (bit flags OFM) false)))

-- a cause becomes an interrupt only if FE, UIE and its mask are 1
unfoldable pub enabled : ℕ → ℕ → Bool
enabled flags cause = bit flags FE && bit flags UIE && unmasked flags cause

-- LPI, HPI, UFI and OFI at 0
unfoldable pub quiet : ℕ → ℕ
quiet flags = clear_bit 32 (clear_bit 32 (clear_bit 32 (clear_bit 32 flags LPI) HPI) UFI) OFI

-- starting sets the cause's bit and clears the other three
unfoldable pub started : ℕ → ℕ → ℕ
started cause flags =
    cond (eqb cause low_preset) (set_bit (quiet flags) LPI)
    (cond (eqb cause high_preset) (set_bit (quiet flags) HPI)
    (cond (eqb cause underflow) (set_bit (quiet flags) UFI) (cond (eqb cause overflow) (set_bit (quiet flags) OFI) (quiet flags))))

-- a cause that starts, waits or is lost: UIL 1 if it is lost
unfoldable pub posted_flags : Outcome → ℕ → ℕ → ℕ
posted_flags Starts cause flags = started cause flags
posted_flags Waits cause flags = flags
posted_flags Lost cause flags = set_bit flags UIL

-- the cause that starts when a routine is done, if there is one
unfoldable pub finished_flags : Next → ℕ → ℕ
finished_flags (Cause cause) flags = started cause flags
finished_flags Nothing flags = flags

-- ---- interrupts

-- a cause becomes an interrupt
unfoldable pub interrupt : ℕ → Counter → Counter
interrupt cause c =
    with_flags (posted_flags (post cause c.desk).outcome cause c.flags) (with_desk (post cause c.desk).desk c)

-- the routine is done
unfoldable pub routine_done : Counter → Counter
routine_done c = with_flags (finished_flags (finish c.desk).next c.flags) (with_desk (finish c.desk).desk c)

-- outputs go by the cause whether or not it becomes an interrupt; a cause that does not is dropped
abbrev pub with_outputs : ℕ → Counter → Counter
with_outputs cause c = with_out (cause_word cause c.active.omb c.active.hpo c.active.lpo c.out) c

unfoldable pub raise : ℕ → Counter → Counter
raise cause c = cond (enabled c.flags cause) (interrupt cause (with_outputs cause c)) (with_outputs cause c)
