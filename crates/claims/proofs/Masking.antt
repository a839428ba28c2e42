-- What is claimed of masks over outputs that aren't there (document 02, request 6): each statement whole, proved by naming the law that
-- stands in another crate's `proofs/`. That a load's ER is n exactly if rule n is the first one broken is `load-refused` in `Claims`, for
-- however many rules there are; here it is met at the sixth.
use mathlib.Core.Path.{◌≡◌, refl}
use mathlib.Core.Logic.{◌↔◌}
use mathlib.Core.Bool.{true, false, cond, not, ◌&&◌, ◌||◌, beq}
use mathlib.Core.List.{List, [], ◌∷◌}
use Prim.Native.Nat.{ℕ, ◌%◌, ◌^◌, ◌<◌, ◌≤◌}
use lib.Dec.{eqb, leb}
use Rattle.word.specs.Masks.{bit, merge}
use Rattle.counter.specs.declared.state.Settings.{Settings}
use Rattle.counter.specs.declared.state.Counter.{Counter}
use Rattle.counter.specs.Parts.{ED, AS, FE, flag, on, mode_of, with_omb, with_staged}
use Rattle.counter.specs.Loading.{rule1, rule2, rule3, rule4, rule5, rule6, rules, First, load, preset_load, with_masks}
use Rattle.counter.specs.Interrupts.{output_mask, preset_word}
use Rattle.counter.specs.Events.{program_word, emptied, enter_run}
use Rattle.counter.specs.WellFormed.{error_formed, well_formed}
use Rattle.snapshot.specs.Snapshots.{decode}
use Rattle.snapshot.specs.FormedBytes.{formed}
use Rattle.counter.proofs as counter
use Rattle.snapshot.proofs as snapshot

-- ---- a load

-- the rules in their order
pub rules-listed : (s : Settings)
    → rules s
    ≡ rule1 s.pfn
    ∷ rule2 (mode_of s.mode)
    ∷ rule3 (mode_of s.mode) s.hip s.lop
    ∷ rule4 s.hip s.ovf
    ∷ rule5 (mode_of s.mode) s.lop s.unf
    ∷ rule6 s.omb
    ∷ []
rules-listed s = refl

-- the sixth is broken exactly if OMB, of 16 bits, has any of bits 12 to 15
pub rule-six : (omb : ℕ) → omb < 2 ^ 16 → rule6 omb ≡ not (bit omb 12 || bit omb 13 || bit omb 14 || bit omb 15)
rule-six = counter.Masked.rule-six

-- a load is rejected with 6 exactly if that rule is the first one broken (rule 1 is at place 0)
pub load-six : (c : Counter) → ((load c).er ≡ 6) ↔ First (rules c.staged) 5
load-six c = counter.Exact.load-refused c 5

-- enter run with AS loads as SP does, after which FE is 1 if the load was accepted
pub run-loads : (c : Counter) → flag c AS ≡ true
    → enter_run c ≡ cond (eqb (load (emptied c)).er 0) (on FE (load (emptied c))) (load (emptied c))
run-loads = counter.LoadEffects.run-loads

-- an accepted load's active OMB has bits 0 to 11 only
pub accepted-mask : (c : Counter) → (load c).er ≡ 0 → (n : ℕ) → 12 ≤ n → bit (load c).active.omb n ≡ false
accepted-mask = counter.Masked.accepted-mask

-- ---- the preset load

-- it looks at neither OMB, the staged or the active one, and leaves both: with any other two it does the same
pub preset-masks : (v w : ℕ) (c : Counter) → preset_load (with_masks v w c) ≡ with_masks v w (preset_load c)
preset-masks = counter.Masked.preset-masks

-- ---- well formed

-- ER is at most 6
pub error-six : (er flags : ℕ) → error_formed er flags ≡ (leb er 6 && beq (bit flags ED) (not (eqb er 0)))
error-six er flags = refl

-- a snapshot, and a state, whose active OMB has one of bits 12 to 15 is not well formed
pub formed-mask : (b : List ℕ) (n : ℕ) → 12 ≤ n → bit (decode b).active.omb n ≡ true → formed b ≡ false
formed-mask = snapshot.Rules.formed-mask

pub mask-formed : (c : Counter) (n : ℕ) → 12 ≤ n → bit c.active.omb n ≡ true → well_formed c ≡ false
mask-formed = counter.Masked.mask-formed

-- the staged one may have any bits
pub staged-formed : (c : Counter) (w : ℕ) → well_formed (with_staged (with_omb w c.staged) c) ≡ well_formed c
staged-formed = counter.Masked.staged-formed

-- ---- outputs of a well-formed state

module _ (c : Counter) (formed : well_formed c ≡ true) where
  -- every bit of the active OMB is an output
  pub mask-bits : (n : ℕ) → 12 ≤ n → bit c.active.omb n ≡ false
  mask-bits = counter.Masked.mask-bits c formed

  -- so the outputs in the mask are the OMB itself
  pub mask-outputs : output_mask c.active.omb ≡ c.active.omb
  mask-outputs = counter.Masked.mask-outputs c formed

  -- and a preset's word and the program's go by OMB as it stands
  pub preset-by-mask : (word out : ℕ) → preset_word c.active.omb word out ≡ merge 16 c.active.omb word out
  preset-by-mask = counter.Masked.preset-by-mask c formed

  pub program-by-mask : (word out : ℕ) → program_word c.active.omb word out ≡ merge 16 c.active.omb out (word % 4096)
  program-by-mask = counter.Masked.program-by-mask c formed
