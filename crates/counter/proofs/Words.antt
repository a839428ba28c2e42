-- Outputs bit by bit: an output that is not in the active mask keeps its level on causes 1 and 2, one that is keeps it on the
-- program's word, bits 12 to 15 stay 0, and staged settings have no say.
use mathlib.Core.Path.{◌≡◌, refl, ap, ◌∙◌}
use mathlib.Core.Bool.{Bool, true, false, cond}
use Prim.Native.Nat.{ℕ, ◌%◌, ◌<◌, ◌≤◌, ◌^◌}
use native.Mathlib.Nat.{lt_trans, mod-lt}
use native.Mathlib.Omega.{arith}
use borrow.Author.Tests.{ltb-true, ltb-false}
use lib.Dec.{eqb, ltb, lit<}
use lib.IntN.{ℤ}
use Rattle.word.specs.Masks.{bit}
use Rattle.word.proofs.Masks.{bit-merge, bit-mod, bit-above}
use Rattle.accumulator.specs.Causes.{low_preset, high_preset}
use Rattle.counter.specs.declared.state.Settings.{Settings}
use Rattle.counter.specs.declared.state.Counter.{Counter}
use Rattle.counter.specs.Sample.{Sampled}
use Rattle.counter.specs.Sample.{Count}
use Rattle.counter.specs.Sample.{None, Up, Down}
use Rattle.counter.specs.Parts.{with_staged, with_acc, with_flags, with_levels}
use Rattle.counter.specs.Interrupts.{output_mask, preset_word, cause_word, enabled, interrupt, with_outputs, raise}
use Rattle.counter.specs.Sample.{counted_by, resets, may_count, count, sampled, applied, sample}
use Rattle.counter.specs.Events.{program_word, output_write}
use Rattle.counter.proofs.Samples.{cause_word-lt, program_word-lt}

-- ---- the mask among bits 0 to 11

mask-lt : (omb : ℕ) → output_mask omb < 2 ^ 16
mask-lt omb = lt_trans (mod-lt omb (lit< tt)) (lit< tt)

mask-off : (omb n : ℕ) → bit omb n ≡ false → bit (output_mask omb) n ≡ false
mask-off omb n h = go (ltb n 12) refl
  where
    go : (b : Bool) → ltb n 12 ≡ b → bit (output_mask omb) n ≡ false
    go true e = bit-mod omb 12 n (ltb-true n 12 e) ∙ h
    go false e = bit-above (output_mask omb) 12 n (mod-lt omb (lit< tt)) (ltb-false n 12 e)

-- ---- causes

module _ (omb word out n : ℕ) where
  pub preset-kept : bit omb n ≡ false → n < 16 → bit (preset_word omb word out) n ≡ bit out n
  unfolding preset_word
  preset-kept h l = bit-merge 16 (output_mask omb) word out n (mask-lt omb) l ∙ rw (mask-off omb n h)

  pub preset-put : bit omb n ≡ true → n < 12 → bit (preset_word omb word out) n ≡ bit word n
  unfolding preset_word
  preset-put h l =
      bit-merge 16 (output_mask omb) word out n (mask-lt omb) (omega arith) ∙ rw (bit-mod omb 12 n l ∙ h)

-- an output that is not in the active mask keeps its level on every cause
pub cause-kept : (cause omb hpo lpo out n : ℕ) → bit omb n ≡ false → n < 16 → bit (cause_word cause omb hpo lpo out) n ≡ bit out n
unfolding cause_word
cause-kept cause omb hpo lpo out n h l = go (eqb cause high_preset) (eqb cause low_preset)
  where
    go : (a b : Bool) → bit (cond a (preset_word omb hpo out) (cond b (preset_word omb lpo out) out)) n ≡ bit out n
    go true b = preset-kept omb hpo out n h l
    go false true = preset-kept omb lpo out n h l
    go false false = refl

-- ---- the program's word

module _ (omb word out n : ℕ) (l : n < 12) where
  -- an output in the active mask keeps its level
  pub program-kept : bit omb n ≡ true → bit (program_word omb word out) n ≡ bit out n
  unfolding program_word
  program-kept h = bit-merge 16 (output_mask omb) out (word % 4096) n (mask-lt omb) (omega arith) ∙ rw (bit-mod omb 12 n l ∙ h)

  -- another takes the word's bit
  pub program-put : bit omb n ≡ false → bit (program_word omb word out) n ≡ bit word n
  unfolding program_word
  program-put h = bit-merge 16 (output_mask omb) out (word % 4096) n (mask-lt omb) (omega arith) ∙ rw (mask-off omb n h) (bit-mod word 12 n l)

-- ---- bits 12 to 15

module _ (out n : ℕ) (h : out < 2 ^ 12) (l : 12 ≤ n) where
  pub cause-top : (cause omb hpo lpo : ℕ) → bit (cause_word cause omb hpo lpo out) n ≡ false
  cause-top cause omb hpo lpo = bit-above (cause_word cause omb hpo lpo out) 12 n (cause_word-lt cause omb hpo lpo out h) l

  pub program-top : (omb word : ℕ) → bit (program_word omb word out) n ≡ false
  program-top omb word = bit-above (program_word omb word out) 12 n (program_word-lt omb word out h) l

-- ---- staged settings

module _ (s : Settings) where
  cond-staged : (b : Bool) (x y : Counter) → cond b (with_staged s x) (with_staged s y) ≡ with_staged s (cond b x y)
  cond-staged true x y = refl
  cond-staged false x y = refl

  raise-staged : (cause : ℕ) (c : Counter) → raise cause (with_staged s c) ≡ with_staged s (raise cause c)
  unfolding raise interrupt
  raise-staged cause c = cond-staged (enabled c.flags cause) (interrupt cause (with_outputs cause c)) (with_outputs cause c)

  counted_by-staged : (way : Count) (c : Counter) → counted_by way (with_staged s c) ≡ counted_by way c
  unfolding counted_by
  counted_by-staged None c = refl
  counted_by-staged Up c = refl
  counted_by-staged Down c = refl

  sampled-staged : (new : ℕ) (c : Counter) → sampled new (with_staged s c) ≡ sampled new c
  unfolding sampled count may_count resets
  sampled-staged new c = rw (counted_by-staged (count new c) c)

  -- staged settings, OMB among them, have no say in an input sample or in the program's word
  pub sample-staged : (new : ℕ) (c : Counter) → sample new (with_staged s c) ≡ with_staged s (sample new c)
  unfolding sample
  sample-staged new c =
      ap (λ (r : Sampled). applied r (with_levels new (with_staged s c))) (sampled-staged new c)
      ∙ raise-staged (sampled new c).cause (with_flags (sampled new c).flags (with_acc (sampled new c).acc (with_levels new c)))

  pub output-staged : (v : ℤ) (c : Counter) → output_write v (with_staged s c) ≡ with_staged s (output_write v c)
  output-staged v c = refl
