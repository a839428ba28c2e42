-- Document 01, "Loading settings", with document 02's request 6: the rules in their order, and what an accepted and a rejected load leave.
use Rattle.std.specs.Prelude.{◌≡◌, Bool, true, false, cond, not, ◌&&◌, ◌||◌, List, [], ◌∷◌, ◌++◌, ℕ, suc, ◌^◌, ◌<◌, eqb, ltb, length, get_or, ℤ, pos, Result, Ok, Err}
use Rattle.std.specs.Int.Signed.{lt_z, le_z}
use Rattle.counter.specs.declared.rules.Rule.{Rule}
use Rattle.counter.specs.declared.rules.Rule.TheVariants.{Routine, Mode, High, Overflow, Low, Mask}
use Rattle.counter.specs.declared.state.Settings.{Settings}
use Rattle.counter.specs.declared.state.Counter.{Counter}
use Rattle.counter.specs.Parts.{with_hip, with_lop, with_omb, with_hpo, with_lpo, with_staged, with_active, with_er}
use Rattle.counter.specs.Parts.{flag, on, off, ED, LOADED, no_settings, mode_of, up_only}

-- ---- the rules, each as its row states it

-- 1: PFN is 3 to 255
abbrev pub rule1 : ℤ → Bool
rule1 pfn = le_z (pos 3) pfn && le_z pfn (pos 255)

-- 2: MOD is 0 to 7
abbrev pub rule2 : ℕ → Bool
rule2 m = ltb m 8

-- 3: modes 0, 1: HIP > 0; modes 2-7: HIP > LOP
abbrev pub rule3 : ℕ → ℤ → ℤ → Bool
rule3 m hip lop = up_only m && lt_z (pos 0) hip || not (up_only m) && lt_z lop hip

-- 4: HIP <= OVF
abbrev pub rule4 : ℤ → ℤ → Bool
rule4 hip ovf = le_z hip ovf

-- 5: modes 2-7: LOP >= UNF (house: the number)
abbrev pub rule5 : ℕ → ℤ → ℤ → Bool
rule5 m lop unf = up_only m || le_z unf lop

-- 6: OMB has bits 0 to 11 only
abbrev pub rule6 : ℕ → Bool
rule6 omb = ltb omb (2 ^ 12)

-- the tests of rules 3 to 5, in their order
abbrev pub preset_tests : ℕ → ℤ → ℤ → ℤ → ℤ → List Bool
preset_tests m hip lop ovf unf = rule3 m hip lop ∷ rule4 hip ovf ∷ rule5 m lop unf ∷ []

-- the same for the presets of s with MOD, OVF and UNF of a
abbrev pub preset_rules : Settings → Settings → List Bool
preset_rules s a = preset_tests (mode_of a.mode) s.hip s.lop a.ovf a.unf

-- the tests of all rules, in their order
abbrev pub rules : Settings → List Bool
rules s =
    rule1 s.pfn
    ∷ rule2 (mode_of s.mode)
    ∷ preset_rules s s
    ++ (rule6 s.omb ∷ [])

-- how many rules there are, whatever the settings; ER is at most this
abbrev pub rule_count : ℕ
rule_count = length (rules no_settings)

-- ---- the first broken rule

-- the number of the first test that fails, the tests counted from n; 0 if none fails
unfoldable pub broken_from : ℕ → List Bool → ℕ
broken_from n [] = 0
broken_from n (b ∷ bs) = cond b (broken_from (suc n) bs) n

unfoldable pub first_broken : Settings → ℕ
first_broken s = broken_from 1 (rules s)

-- ---- the rules as code names them

abbrev pub rule_number : Rule → ℕ
rule_number Routine = 1
rule_number Mode = 2
rule_number High = 3
rule_number Overflow = 4
rule_number Low = 5
rule_number Mask = 6

-- ER after a check: the number of the rule that it found broken, 0 if it found none
abbrev pub er_of : Result Unit Rule → ℕ
er_of (Ok done) = 0
er_of (Err rule) = rule_number rule

abbrev pub passes : Rule → Settings → Bool
passes Routine s = rule1 s.pfn
passes Mode s = rule2 (mode_of s.mode)
passes High s = rule3 (mode_of s.mode) s.hip s.lop
passes Overflow s = rule4 s.hip s.ovf
passes Low s = rule5 (mode_of s.mode) s.lop s.unf
passes Mask s = rule6 s.omb

-- ---- what a load leaves

-- ED 0, ER 0
abbrev pub without_error : Counter → Counter
without_error c = off ED (with_er 0 c)

-- accepted: active becomes staged, loaded 1
abbrev pub accepted : Counter → Counter
accepted c = without_error (on LOADED (with_active c.staged c))

-- rejected: ED 1, ER set, active and loaded stay
abbrev pub rejected : ℕ → Counter → Counter
rejected n c = on ED (with_er n c)

unfoldable pub load : Counter → Counter
load c = cond (eqb (first_broken c.staged) 0) (accepted c) (rejected (first_broken c.staged) c)

-- ---- the preset load (HSL): staged HIP, LOP, HPO, LPO with active MOD, OVF, UNF

unfoldable pub preset_broken : Settings → Settings → ℕ
preset_broken s a = broken_from 3 (preset_rules s a)

-- active settings with the presets of the staged ones
abbrev pub with_presets : Settings → Settings → Settings
with_presets s a = with_hip s.hip (with_lop s.lop (with_hpo s.hpo (with_lpo s.lpo a)))

abbrev pub preset_accepted : Counter → Counter
preset_accepted c = without_error (with_active (with_presets c.staged c.active) c)

-- no effect if nothing is loaded
unfoldable pub preset_load : Counter → Counter
preset_load c =
    cond (flag c LOADED)
    (cond (eqb (preset_broken c.staged c.active) 0) (preset_accepted c) (rejected (preset_broken c.staged c.active) c))
    c

-- ---- what the laws of loading say

-- the test at place k, counted from 0, is the first that fails
pub record First (tests : List Bool) (k : ℕ) : Type 0 where
  pub broken : get_or tests k true ≡ false
  pub before : (i : ℕ) → i < k → get_or tests i true ≡ true

-- no test fails
abbrev pub AllPass : List Bool → Type 0
AllPass tests = (i : ℕ) → get_or tests i true ≡ true

-- the same counter with these masks staged and active
abbrev pub with_masks : ℕ → ℕ → Counter → Counter
with_masks v w c = with_staged (with_omb v c.staged) (with_active (with_omb w c.active) c)

-- what every load leaves as it was: all parts but active, ER and the flags, and all flags but ED and LOADED
pub record Untouched (c d : Counter) : Type 0 where
  pub staged : d.staged ≡ c.staged
  pub acc : d.acc ≡ c.acc
  pub out : d.out ≡ c.out
  pub levels : d.levels ≡ c.levels
  pub desk : d.desk ≡ c.desk
  pub flags : (n : ℕ) → n < 32 → (n ≡ ED → ⊥) → (n ≡ LOADED → ⊥) → flag d n ≡ flag c n

-- an accepted load of the settings s
pub record Accepted (c : Counter) (s : Settings) (d : Counter) : Type 0 where
  pub active : d.active ≡ s
  pub loaded : flag d LOADED ≡ true
  pub ed : flag d ED ≡ false
  pub er : d.er ≡ 0
  pub rest : Untouched c d

-- a load that is rejected with n
pub record Rejected (c : Counter) (n : ℕ) (d : Counter) : Type 0 where
  pub active : d.active ≡ c.active
  pub loaded : flag d LOADED ≡ flag c LOADED
  pub ed : flag d ED ≡ true
  pub er : d.er ≡ n
  pub rest : Untouched c d
