-- Document 01, "Bench table": rows a to l, as one table of tests.
use Rattle.std.specs.Prelude.{Bool, not, ◌&&◌, List, [], ◌∷◌, ℕ, eqb, ℤ, pos, negsuc}
use Rattle.word.specs.TwosComplement.{eq_z}
use Rattle.accumulator.specs.Causes.{low_preset, high_preset, underflow, overflow}
use Rattle.counter.specs.declared.state.Counter.{Counter}
use Rattle.counter.specs.Sample.{Count}
use Rattle.counter.specs.Sample.{Up, Down}
use Rattle.counter.specs.Desk.{desk_of, first, second}
use Rattle.counter.specs.Parts.{UIE, UIL, FE, LPI, HPI, OF, MD, LOADED, with_active, with_acc}
use Rattle.counter.specs.Parts.{with_out, with_desk, flag, on, fresh}
use Rattle.counter.specs.Interrupts.{routine_done, raise}
use Rattle.counter.specs.Sample.{counted_by, applied}

-- ---- what the rows start from

-- settings by mode, UNF, LOP, HIP and OVF, loaded, and ACC
abbrev pub loaded_with : ℤ → ℤ → ℤ → ℤ → ℤ → ℤ → Counter
loaded_with m unf lop hip ovf acc =
    with_acc acc (on LOADED (with_active (record { pfn = pos 3; mode = m; hip = hip; lop = lop; ovf = ovf; unf = unf; omb = 0; hpo = 0; lpo = 0 }) fresh))

-- P: mode 2, UNF -3, LOP -2, HIP 4, OVF 5
abbrev pub at_p : ℤ → Counter
at_p = loaded_with (pos 2) (negsuc 2) (negsuc 1) (pos 4) (pos 5)

-- mode 0, HIP 3, OVF 10
abbrev pub at_mode0 : ℤ → Counter
at_mode0 = loaded_with (pos 0) (pos 0) (pos 0) (pos 3) (pos 10)

-- HPO 15 and OMB 13 active, and the outputs
abbrev pub with_mask : ℕ → Counter
with_mask out =
    with_out out (with_active (record { pfn = pos 3; mode = pos 2; hip = pos 4; lop = negsuc 1; ovf = pos 5; unf = negsuc 2; omb = 13; hpo = 15; lpo = 0 }) fresh)

-- FE, UIE, all masks and HPI at 1; running 2, waiting 1 and 4
abbrev pub crowded : Counter
crowded = with_desk (desk_of 2 (1 ∷ 4 ∷ []) 2) (on FE (on UIE (on HPI fresh)))

-- ---- tests

-- the counter after one count
abbrev pub after_count : Count → Counter → Counter
after_count way c = applied (counted_by way c) c

-- one count from c leaves ACC and raises the cause
abbrev pub gives : Counter → Count → ℤ → ℕ → Bool
gives c way acc cause = eq_z (after_count way c).acc acc && eqb (counted_by way c).cause cause

-- running, and the waiting causes beside their number
abbrev pub causes_are : Counter → ℕ → ℕ → ℕ → ℕ → Bool
causes_are c running one two queued =
    eqb c.desk.running running && eqb (first c.desk) one && eqb (second c.desk) two && eqb c.desk.queued queued

unfoldable pub bench : List Bool
bench =
    -- a. P, 3 up: 4, high
    gives (at_p (pos 3)) Up (pos 4) high_preset
    -- b. P, 5 up: -3, overflow
    ∷ gives (at_p (pos 5)) Up (negsuc 2) overflow
    -- c. P, -3 up: -2, nothing
    ∷ gives (at_p (negsuc 2)) Up (negsuc 1) 0
    -- d. P, -1 down: -2, low
    ∷ gives (at_p (negsuc 0)) Down (negsuc 1) low_preset
    -- e. P, -3 down: 5, underflow, no high
    ∷ gives (at_p (negsuc 2)) Down (pos 5) underflow
    -- f. P, 9 up: -3
    ∷ gives (at_p (pos 9)) Up (negsuc 2) overflow
    -- g. P, 9 down: 8
    ∷ gives (at_p (pos 9)) Down (pos 8) 0
    -- h. mode 0, HIP 3, OVF 10: 2 up gives 0, MD
    ∷ (gives (at_mode0 (pos 2)) Up (pos 0) high_preset && flag (after_count Up (at_mode0 (pos 2))) MD)
    -- i. same, 3 up: 4
    ∷ gives (at_mode0 (pos 3)) Up (pos 4) 0
    -- j. same, 10 up: 0, OF, no MD
    ∷ (gives (at_mode0 (pos 10)) Up (pos 0) overflow && flag (after_count Up (at_mode0 (pos 10))) OF && not (flag (after_count Up (at_mode0 (pos 10))) MD))
    -- k. HPO 15, OMB 13, outputs 2: 15; outputs 0: 13
    ∷ (eqb (raise high_preset (with_mask 2)).out 15 && eqb (raise high_preset (with_mask 0)).out 13)
    -- l. running 2, waiting 1 and 4, cause 3: UIL, queue kept; done: 1 runs, LPI 1, HPI 0
    ∷ (flag (raise underflow crowded) UIL
    && causes_are (raise underflow crowded) 2 1 4 2
    && causes_are (routine_done (raise underflow crowded)) 1 4 0 1
    && flag (routine_done (raise underflow crowded)) LPI
    && not (flag (routine_done (raise underflow crowded)) HPI))
    ∷ []
