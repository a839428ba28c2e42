-- Document 01, "Reading returns the state and the bits shown but not stored": the 32 numbers of a reading, in their order.
use Rattle.std.specs.Prelude.{Bool, cond, List, [], ◌∷◌, ◌++◌, ℤ, pos}
use Rattle.std.specs.Int.{w32}
use Rattle.word.specs.TwosComplement.{signed}
use Rattle.counter.specs.declared.state.Settings.{Settings}
use Rattle.counter.specs.declared.state.Counter.{Counter}
use Rattle.counter.specs.Desk.{first, second}
use Rattle.counter.specs.Shown.{uix, uip, cu, cd, hpr, lpr}

-- PFN, MOD, HIP, LOP, OVF, UNF, OMB, HPO, LPO
abbrev pub settings_fields : Settings → List ℤ
settings_fields s =
    s.pfn ∷ s.mode ∷ s.hip ∷ s.lop ∷ s.ovf ∷ s.unf ∷ pos s.omb ∷ pos s.hpo ∷ pos s.lpo ∷ []

-- ACC, outputs, ER, flags by the signed reading of their 32 bits, levels, running, the two waiting
abbrev pub stored_fields : Counter → List ℤ
stored_fields c =
    c.acc
    ∷ pos c.out
    ∷ pos c.er
    ∷ signed w32 c.flags
    ∷ pos c.levels
    ∷ pos c.desk.running
    ∷ pos (first c.desk)
    ∷ pos (second c.desk)
    ∷ []

abbrev pub bit_field : Bool → ℤ
bit_field b = pos (cond b 1 0)

-- UIX, UIP, CU, CD, HPR, LPR
abbrev pub shown_fields : Counter → List ℤ
shown_fields c =
    bit_field (uix c) ∷ bit_field (uip c) ∷ bit_field (cu c) ∷ bit_field (cd c) ∷ bit_field (hpr c) ∷ bit_field (lpr c) ∷ []

-- 0-8 staged, 9-17 active, 18-25 the rest of the state, 26-31 the bits shown
unfoldable pub fields_of : Counter → List ℤ
fields_of c = settings_fields c.staged ++ settings_fields c.active ++ stored_fields c ++ shown_fields c
