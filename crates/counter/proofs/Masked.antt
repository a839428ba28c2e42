-- A loaded mask has outputs alone (document 02, request 6): rule 6 bit by bit, and by it the active mask of every well-formed state. The
-- preset load looks at no mask.
use mathlib.Core.Path.{◌≡◌, refl, sym, ◌∙◌}
use mathlib.Core.Bool.{Bool, true, false, cond, not, ◌&&◌, ◌||◌, true≢false, and-eq-true_iff}
use Prim.Native.Nat.{ℕ, ◌%◌, ◌^◌, ◌<◌, ◌≤◌}
use native.Mathlib.Nat.{mod-eq_of_lt}
use borrow.Author.Tests.{eqb-true, ltb-true, lt-ltb}
use lib.Dec.{eqb, lit<, lit≤}
use lib.IntN.{pos}
use Rattle.word.specs.Masks.{bit, merge}
use Rattle.word.specs.TwosComplement.{eq_z}
use Rattle.word.proofs.Masks.{bit-above, bit-top}
use Rattle.counter.specs.declared.state.Settings.{Settings}
use Rattle.counter.specs.declared.state.Counter.{Counter}
use Rattle.counter.specs.Parts.{flag, LOADED, with_omb, with_staged}
use Rattle.counter.specs.Loading.{rules, rule6, AllPass, first_broken, preset_broken, rejected, load, preset_accepted, preset_load, with_masks}
use Rattle.counter.specs.Interrupts.{output_mask, preset_word}
use Rattle.counter.specs.Events.{program_word}
use Rattle.counter.specs.WellFormed.{is_none, active_formed, well_formed}
use Rattle.counter.proofs.FirstBroken.{passes-all}
use Rattle.counter.proofs.Exact.{load-accepted}
use Rattle.counter.proofs.LoadEffects.{load-accepts}
use Rattle.counter.proofs.Formed.{formed-parts}

pub never : (b : Bool) → (b ≡ true → ⊥) → b ≡ false
never true h = absurd (h refl)
never false h = refl

-- ---- rule 6, bit by bit

broken-by : (omb n : ℕ) → 12 ≤ n → bit omb n ≡ true → rule6 omb ≡ false
broken-by omb n l h = never (rule6 omb) (λ e. true≢false (sym h ∙ bit-above omb 12 n (ltb-true omb (2 ^ 12) e) l))

-- it passes exactly if OMB has none of bits 12 to 15
pub rule-six : (omb : ℕ) → omb < 2 ^ 16 → rule6 omb ≡ not (bit omb 12 || bit omb 13 || bit omb 14 || bit omb 15)
rule-six omb h = go (bit omb 12) (bit omb 13) (bit omb 14) (bit omb 15) refl refl refl refl
  where
    go : (a b c d : Bool) → bit omb 12 ≡ a → bit omb 13 ≡ b → bit omb 14 ≡ c → bit omb 15 ≡ d → rule6 omb ≡ not (a || b || c || d)
    go true b c d p q r s = broken-by omb 12 (lit≤ tt) p
    go false true c d p q r s = broken-by omb 13 (lit≤ tt) q
    go false false true d p q r s = broken-by omb 14 (lit≤ tt) r
    go false false false true p q r s = broken-by omb 15 (lit≤ tt) s
    go false false false false p q r s = lt-ltb omb (2 ^ 12) (bit-top omb 12 (bit-top omb 13 (bit-top omb 14 (bit-top omb 15 h s) r) q) p)

-- ---- an accepted load

passed-mask : (s : Settings) → AllPass (rules s) → s.omb < 2 ^ 12
passed-mask s pass = ltb-true s.omb (2 ^ 12) (pass 5)

-- its active mask has bits 0 to 11 only
pub accepted-mask : (c : Counter) → (load c).er ≡ 0 → (n : ℕ) → 12 ≤ n → bit (load c).active.omb n ≡ false
accepted-mask c e n l =
    let pass : AllPass (rules c.staged) = (load-accepted c).0 e in
    rw (load-accepts c pass).active (bit-above c.staged.omb 12 n (passed-mask c.staged pass) l)

-- ---- well-formed states

none-mask : (s : Settings) → is_none s ≡ true → s.omb ≡ 0
unfolding is_none
none-mask s h =
    let short : Bool = eq_z s.pfn (pos 0) && eq_z s.mode (pos 0) in
    let signed : Bool = short && eq_z s.hip (pos 0) && eq_z s.lop (pos 0) && eq_z s.ovf (pos 0) && eq_z s.unf (pos 0) in
    let lpo = (and-eq-true_iff _ (eqb s.lpo 0)).0 h in
    let hpo = (and-eq-true_iff _ (eqb s.hpo 0)).0 lpo.0 in
    let omb = (and-eq-true_iff signed (eqb s.omb 0)).0 hpo.0 in
    eqb-true s.omb 0 omb.1

active-mask : (flags : ℕ) (s : Settings) → active_formed flags s ≡ true → s.omb < 2 ^ 12
active-mask flags s h = go (bit flags LOADED) h
  where
    go : (b : Bool) → cond b (eqb (first_broken s) 0) (is_none s) ≡ true → s.omb < 2 ^ 12
    go true e = passed-mask s (passes-all s (eqb-true (first_broken s) 0 e))
    go false e = rw (none-mask s e) (lit< tt)

module _ (c : Counter) (formed : well_formed c ≡ true) where
  below : c.active.omb < 2 ^ 12
  below = active-mask c.flags c.active (formed-parts c formed).active

  -- every bit of the active mask is an output
  pub mask-bits : (n : ℕ) → 12 ≤ n → bit c.active.omb n ≡ false
  mask-bits n l = bit-above c.active.omb 12 n below l

  -- so the outputs in it are the mask itself
  pub mask-outputs : output_mask c.active.omb ≡ c.active.omb
  mask-outputs = mod-eq_of_lt below

  -- and a preset's word and the program's go by it as it stands
  pub preset-by-mask : (word out : ℕ) → preset_word c.active.omb word out ≡ merge 16 c.active.omb word out
  unfolding preset_word
  preset-by-mask word out = rw mask-outputs

  pub program-by-mask : (word out : ℕ) → program_word c.active.omb word out ≡ merge 16 c.active.omb out (word % 4096)
  unfolding program_word
  program-by-mask word out = rw mask-outputs

-- a state whose active mask has another bit is not well formed
pub mask-formed : (c : Counter) (n : ℕ) → 12 ≤ n → bit c.active.omb n ≡ true → well_formed c ≡ false
mask-formed c n l h = never (well_formed c) (λ e. true≢false (sym h ∙ mask-bits c e n l))

-- the staged one may have any bits
pub staged-formed : (c : Counter) (w : ℕ) → well_formed (with_staged (with_omb w c.staged) c) ≡ well_formed c
unfolding well_formed
staged-formed c w = refl

-- ---- the preset load

-- neither mask has a say, and both stay
pub preset-masks : (v w : ℕ) (c : Counter) → preset_load (with_masks v w c) ≡ with_masks v w (preset_load c)
unfolding preset_load preset_broken
preset-masks v w c = go (flag c LOADED) (eqb broken 0)
  where
    broken : ℕ
    broken = preset_broken c.staged c.active

    left : Bool → Bool → Counter → Counter
    left loaded passes d = cond loaded (cond passes (preset_accepted d) (rejected broken d)) d

    go : (l p : Bool) → left l p (with_masks v w c) ≡ with_masks v w (left l p c)
    go true true = refl
    go true false = refl
    go false p = refl
