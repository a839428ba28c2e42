-- Outputs, a raised cause and an input sample keep a state well formed.
use mathlib.Core.Path.{◌≡◌, refl, ap}
use mathlib.Core.Bool.{Bool, true, false, cond, ◌&&◌, and-eq-true_iff, false≢true}
use Prim.Native.Nat.{ℕ, ◌<◌, ◌≤◌, ◌%◌, ◌^◌}
use native.Mathlib.Nat.{mod-lt, lt_of_le_of_lt}
use borrow.Author.Tests.{eqb-true}
use lib.Bits.{bit_and, and_le_l, and_le_r, or_lt}
use lib.Dec.{eqb, lit<, lit≤}
use lib.IntN.{ℤ, pos, ◌+ℤ◌, ◌-ℤ◌}
use lib.Signed.{le_z}
use mir.Syntax.{w32}
use mir.Val.{SFits}
use Rattle.word.specs.Masks.{bit, merge}
use Rattle.word.specs.TwosComplement.{eq_z}
use Rattle.word.proofs.Masks.{merge-lt}
use Rattle.word.proofs.Branches.{cond-cases}
use Rattle.accumulator.specs.Count.{Counted}
use Rattle.accumulator.specs.Causes.{low_preset, high_preset, overflow, cause_count}
use Rattle.accumulator.specs.Count.{counted, up, down}
use Rattle.accumulator.proofs.Limits.{up-fits, down-fits}
use Rattle.counter.specs.declared.desk.Desk.{Desk}
use Rattle.counter.specs.declared.state.Counter.{Counter}
use Rattle.counter.specs.Sample.{Sampled}
use Rattle.counter.specs.Sample.{Count}
use Rattle.counter.specs.Sample.{None, Up, Down}
use Rattle.counter.specs.Parts.{FE, UIE, with_acc, with_flags, with_levels, with_desk, up_only, mode}
use Rattle.counter.specs.Interrupts.{output_mask, preset_word, cause_word, unmasked, enabled, with_outputs, raise}
use Rattle.counter.specs.Sample.{up_of, down_of, sampled_as, unmoved, counted_by, resets, may_count, count, sampled, sample}
use Rattle.counter.specs.Events.{program_word}
use Rattle.counter.proofs.Flags.{Kept, kept-refl, kept-up_flags, kept-down_flags}
use Rattle.counter.proofs.Changes.{Well, well-out, well-acc, well-flags, well-levels}
use Rattle.counter.proofs.Queue.{IsCause}
use Rattle.counter.proofs.Interrupting.{well-interrupt}

-- ---- outputs stay below 2 ^ 12

pub preset_word-lt : (omb word out : ℕ) → out < 2 ^ 12 → preset_word omb word out < 2 ^ 12
unfolding preset_word merge
preset_word-lt omb word out h =
    or_lt 12 (bit_and word (output_mask omb)) _ (lt_of_le_of_lt (and_le_r word (output_mask omb)) (mod-lt omb (lit< tt))) (lt_of_le_of_lt (and_le_l out _) h)

pub cause_word-lt : (cause omb hpo lpo out : ℕ) → out < 2 ^ 12 → cause_word cause omb hpo lpo out < 2 ^ 12
unfolding cause_word
cause_word-lt cause omb hpo lpo out h =
    cond-cases (λ (n : ℕ). n < 2 ^ 12) (eqb cause high_preset) _ _ (λ e. preset_word-lt omb hpo out h)
    (λ e. cond-cases (λ (n : ℕ). n < 2 ^ 12) (eqb cause low_preset) _ _ (λ e. preset_word-lt omb lpo out h) (λ e. h))

pub program_word-lt : (omb word out : ℕ) → out < 2 ^ 12 → program_word omb word out < 2 ^ 12
unfolding program_word
program_word-lt omb word out h = merge-lt 12 16 (output_mask omb) out (word % 4096) h (mod-lt word (lit< tt))

-- ---- a raised cause

-- only 1 to 4 become interrupts
pub enabled-cause : (flags cause : ℕ) → enabled flags cause ≡ true → IsCause cause_count cause
unfolding enabled unmasked
enabled-cause flags cause h = go (eqb cause 1) (eqb cause 2) (eqb cause 3) (eqb cause 4) refl refl refl refl
  where
    m : unmasked flags cause ≡ true
    m = ((and-eq-true_iff (bit flags FE && bit flags UIE) (unmasked flags cause)).0 h).1

    is : (n : ℕ) → eqb cause n ≡ true → eqb n 0 ≡ false → n ≤ cause_count → IsCause cause_count cause
    is n e z l = record { some = rw (eqb-true cause n e) z; small = rw (eqb-true cause n e) l }

    go : (a b c d : Bool) → eqb cause 1 ≡ a → eqb cause 2 ≡ b → eqb cause 3 ≡ c → eqb cause 4 ≡ d → IsCause cause_count cause
    go true b c d p q r s = is 1 p refl (lit≤ tt)
    go false true c d p q r s = is 2 q refl (lit≤ tt)
    go false false true d p q r s = is 3 r refl (lit≤ tt)
    go false false false true p q r s = is 4 s refl (lit≤ tt)
    go false false false false p q r s = absurd (false≢true (rw (p, q, r, s) at m))

pub well-raise : (c : Counter) (cause : ℕ) → Well c → Well (raise cause c)
unfolding raise
well-raise c cause w =
    let a = c.active in
    let put : Well (with_outputs cause c) =
    well-out c w (cause_word cause a.omb a.hpo a.lpo c.out) (cause_word-lt cause a.omb a.hpo a.lpo c.out w.formed.out) in
    cond-cases Well (enabled c.flags cause) _ _
    (λ e. well-interrupt (with_outputs cause c) put cause (enabled-cause c.flags cause e))
    (λ e. put)

-- ---- a count

-- ACC after a count fits
Fitting : Counted → Type 0
Fitting r = SFits w32 r.acc

pub up-acc : (single : Bool) (acc hip ovf unf : ℤ) → SFits w32 acc → SFits w32 ovf → SFits w32 unf → SFits w32 (up single acc hip ovf unf).acc
unfolding up Fitting
up-acc single acc hip ovf unf a o u =
    cond-cases Fitting (le_z ovf acc) _ _
    (λ e. cond-cases Fitting single (counted (pos 0) overflow) (counted unf overflow) (λ s. zero) (λ s. u))
    (λ e. cond-cases Fitting (eq_z (acc +ℤ pos 1) hip) _ _
    (λ l. cond-cases Fitting single (counted (pos 0) high_preset) (counted (acc +ℤ pos 1) high_preset) (λ s. zero) (λ s. up-fits a o e))
    (λ l. up-fits a o e))
  where
    zero : SFits w32 (pos 0)
    zero = record { sfits = lit< tt }

pub down-acc : (acc lop ovf unf : ℤ) → SFits w32 acc → SFits w32 ovf → SFits w32 unf → SFits w32 (down acc lop ovf unf).acc
unfolding down Fitting
down-acc acc lop ovf unf a o u =
    cond-cases Fitting (le_z acc unf) _ _ (λ e. o)
    (λ e. cond-cases Fitting (eq_z (acc -ℤ pos 1) lop) _ _ (λ l. down-fits a u e) (λ l. down-fits a u e))

-- what a sample makes of ACC fits, and of the flags keeps ED and LOADED
record Moved (c : Counter) (r : Sampled) : Type 0 where
  acc : SFits w32 r.acc
  flags : Kept c.flags r.flags

module _ (c : Counter) (w : Well c) where
  still : Moved c (unmoved c)
  still = record { acc = w.typed.acc; flags = kept-refl c.flags }

  moved-counted_by : (way : Count) → Moved c (counted_by way c)
  unfolding counted_by
  moved-counted_by None = still
  moved-counted_by Up =
      let a = w.typed.active in
      record {
        acc = up-acc (up_only (mode c)) c.acc c.active.hip c.active.ovf c.active.unf w.typed.acc a.ovf a.unf;
        flags = kept-up_flags (up_only (mode c)) (up_of c).cause c.flags;
      }
  moved-counted_by Down =
      let a = w.typed.active in
      record {
        acc = down-acc c.acc c.active.lop c.active.ovf c.active.unf w.typed.acc a.ovf a.unf;
        flags = kept-down_flags (down_of c).cause c.flags;
      }

  moved-sampled : (new : ℕ) → Moved c (sampled new c)
  unfolding sampled
  moved-sampled new =
      let reset : Moved c (sampled_as (pos 0) c.flags 0) = record { acc = record { sfits = lit< tt }; flags = kept-refl c.flags } in
      cond-cases (Moved c) (resets new c) _ _ (λ e. reset) (λ e. moved-counted_by (count new c))

  -- ---- the sample

  pub well-sample : (new : ℕ) → new ≤ 15 → Well (sample new c)
  unfolding sample
  well-sample new h =
      let r : Sampled = sampled new c in
      let m : Moved c r = moved-sampled new in
      let stored : Well (with_levels new c) = well-levels c w new h in
      let d : Counter = with_acc r.acc (with_levels new c) in
      let counted : Well d = well-acc (with_levels new c) stored r.acc m.acc in
      well-raise (with_flags r.flags d) r.cause (well-flags d counted r.flags m.flags)

-- ---- what a sample does not look at

counted-desk : (way : Count) (d : Desk) (c : Counter) → counted_by way (with_desk d c) ≡ counted_by way c
unfolding counted_by
counted-desk None d c = refl
counted-desk Up d c = refl
counted-desk Down d c = refl

pub sampled-desk : (new : ℕ) (d : Desk) (c : Counter) → sampled new (with_desk d c) ≡ sampled new c
unfolding sampled resets count may_count
sampled-desk new d c = ap (cond (resets new c) (sampled_as (pos 0) c.flags 0)) (counted-desk (count new c) d c)
