-- Document 01, "Snapshot, 68 bytes", with document 02's request 7: well formed, by parts and on states.
use Rattle.std.specs.Prelude.{◌≡◌, Bool, true, cond, not, ◌&&◌, ◌||◌, ℕ, ◌^◌, ◌<◌, eqb, leb, ltb, pos, length}
use Rattle.std.specs.Bool.{beq}
use Rattle.std.specs.Int.{w16, w32}
use Rattle.std.proofs.Common.{SFits}
use Rattle.word.specs.Masks.{bit}
use Rattle.word.specs.TwosComplement.{eq_z}
use Rattle.accumulator.specs.Causes.{cause_count}
use Rattle.counter.specs.declared.state.Settings.{Settings}
use Rattle.counter.specs.declared.state.Counter.{Counter}
use Rattle.counter.specs.Desk.{first, second, queued_of}
use Rattle.counter.specs.Parts.{ED, LOADED}
use Rattle.counter.specs.Loading.{rule_count, first_broken}

-- every setting is 0
unfoldable pub is_none : Settings → Bool
is_none s =
    eq_z s.pfn (pos 0)
    && eq_z s.mode (pos 0)
    && eq_z s.hip (pos 0)
    && eq_z s.lop (pos 0)
    && eq_z s.ovf (pos 0)
    && eq_z s.unf (pos 0)
    && eqb s.omb 0
    && eqb s.hpo 0
    && eqb s.lpo 0

-- ---- by parts, which are a state's or stand in a snapshot's bytes

-- causes up to `most`, second waiting only with a first, first only with one running; two that wait differ
abbrev pub causes_formed : ℕ → ℕ → ℕ → ℕ → Bool
causes_formed most running first second =
    leb running most
    && leb first most
    && leb second most
    && (eqb second 0 || not (eqb first 0))
    && (eqb first 0 || not (eqb running 0))
    && (eqb second 0 || not (eqb first second))

-- ER 0 or a rule's number, ED = 1 exactly if ER is not 0
abbrev pub error_formed : ℕ → ℕ → Bool
error_formed er flags = leb er rule_count && beq (bit flags ED) (not (eqb er 0))

-- active passes the rules if loaded and is all 0 if not
abbrev pub active_formed : ℕ → Settings → Bool
active_formed flags active = cond (bit flags LOADED) (eqb (first_broken active) 0) (is_none active)

-- Flag bits 20-31 zero, output bits 12-15 zero, levels <= 15; then the causes, ER, and the active settings. The parts stand in the
-- snapshot's order.
unfoldable pub parts_formed : Settings → ℕ → ℕ → ℕ → ℕ → ℕ → ℕ → ℕ → Bool
parts_formed active out er flags levels running first second =
    ltb flags (2 ^ 20)
    && ltb out (2 ^ 12)
    && leb levels 15
    && causes_formed cause_count running first second
    && error_formed er flags
    && active_formed flags active

-- ---- a state

-- its parts, and a number of waiting causes that is that of the two places
unfoldable pub well_formed : Counter → Bool
well_formed c =
    parts_formed c.active c.out c.er c.flags c.levels c.desk.running (first c.desk) (second c.desk)
    && eqb c.desk.queued (queued_of (first c.desk) (second c.desk))

-- Each part is a value of its type. Code has this of itself; a state as the theory of replay has it says so.
pub record SettingsTyped (s : Settings) : Type 0 where
  pub pfn : SFits w16 s.pfn
  pub mode : SFits w16 s.mode
  pub hip : SFits w32 s.hip
  pub lop : SFits w32 s.lop
  pub ovf : SFits w32 s.ovf
  pub unf : SFits w32 s.unf
  pub omb : s.omb < 2 ^ 16
  pub hpo : s.hpo < 2 ^ 16
  pub lpo : s.lpo < 2 ^ 16

pub record Typed (c : Counter) : Type 0 where
  pub staged : SettingsTyped c.staged
  pub active : SettingsTyped c.active
  pub acc : SFits w32 c.acc
  pub waiting : length c.desk.waiting ≡ 2

-- a well-formed state
pub record Good (c : Counter) : Type 0 where
  pub formed : well_formed c ≡ true
  pub typed : Typed c
