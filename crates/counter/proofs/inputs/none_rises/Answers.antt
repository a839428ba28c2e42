-- `counter::inputs::none_rises` meets its contract: bit n of what is tested is 1 where input n rises, and a word is 0 where all its bits are.
use mathlib.Core.Path.{◌≡◌, sym, ap, ◌∙◌}
use mathlib.Core.Bool.{Bool, false, ◌&&◌, and_comm}
use Prim.Native.Nat.{ℕ, ◌-◌, ◌^◌, ◌<◌}
use native.Mathlib.Nat.{lt_of_le_of_lt}
use native.Mathlib.Omega.{arith}
use borrow.Author.Tests.{eqb-true, eq-eqb}
use lib.Bits.{bit_and, and_le_l}
use lib.Dec.{eqb, lit<}
use Rattle.word.specs.Masks.{bit}
use Rattle.word.proofs.Masks.{word-ext, bit-and, bit-not, bit-above}
use Rattle.word.proofs.Branches.{agree}
use Rattle.counter.specs.Sample.{rises}
use Rattle.counter.specs.Idle.{none_rises}
use Rattle.counter.proofs.Idle.{none-rises, rises-none}
use Rattle.counter.proofs.inputs.none_rises.Goals as goal

-- what is tested
abbrev risen : ℕ → ℕ → ℕ
risen old new = bit_and new (2 ^ 8 - 1 - old)

module _ (old new : ℕ) (byte : old < 2 ^ 8) (also : new < 2 ^ 8) where
  bit-risen : (n : ℕ) → n < 8 → bit (risen old new) n ≡ rises old new n
  bit-risen n h =
      bit-and new (2 ^ 8 - 1 - old) n
      ∙ and_comm (bit new n) (bit (2 ^ 8 - 1 - old) n)
      ∙ ap (λ (b : Bool). b && bit new n) (bit-not 8 old n byte h)

  off : (n : ℕ) → bit 0 n ≡ false
  off n = bit-above 0 0 n (lit< tt) (omega arith)

  tested : eqb (risen old new) 0 ≡ none_rises old new 8
  tested =
      agree (eqb (risen old new) 0) (none_rises old new 8)
      (λ t. rises-none old new 8 (λ n h. sym (bit-risen n h) ∙ ap (λ (w : ℕ). bit w n) (eqb-true (risen old new) 0 t) ∙ off n))
      (λ t. eq-eqb (risen old new) 0
      (word-ext 8 (risen old new) 0 (lt_of_le_of_lt (and_le_l new (2 ^ 8 - 1 - old)) also) (lit< tt)
      (λ n h. bit-risen n h ∙ none-rises old new 8 n t h ∙ sym (off n))))

pub returns : goal.returns
returns c = tested c.args.old c.args.new c.ranges.old.fits c.ranges.new.fits
