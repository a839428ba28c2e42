-- `word::parts::same` meets its contract. The invariant: what `all` says of the bytes passed, and the comparison of those left, are
-- together the comparison of the rows.
use mathlib.Core.Path.{◌≡◌, sym, ap, ◌∙◌}
use mathlib.Core.Bool.{Bool, ◌&&◌, and_assoc, and-true}
use mathlib.Core.List.{List}
use Prim.Native.Nat.{ℕ, ◌+◌, ◌≤◌, ◌<◌}
use borrow.Author.Rules.{rules}
use native.Mathlib.Numerals.{add-one}
use native.Mathlib.Omega.{arith}
use lib.Dec.{eqb}
use lib.ListN.{length, get_or, drop, drop_of_length-le}
use lib.Seq.{drop-cons}
use Rattle.word.specs.Same.{same_bytes}
use Rattle.word.proofs.Same.{same_bytes-other}
use Rattle.word.proofs.parts.same.Goals as goal

module _ (a b : List ℕ) (long : length a ≡ length b) (all : Bool) (i : ℕ) where
  -- one byte of each, and the rest
  next : i < length a
      → all && eqb (get_or a i 0) (get_or b i 0) && same_bytes (drop (i + 1) a) (drop (i + 1) b) ≡ all && same_bytes (drop i a) (drop i b)
  unfolding same_bytes
  next h =
      let short : i < length b = omega arith in
      rw (and_assoc, add-one, drop-cons a i 0, drop-cons b i 0)

  -- no byte is left
  done : length a ≤ i → all ≡ all && same_bytes (drop i a) (drop i b)
  unfolding same_bytes
  done h =
      let short : length b ≤ i = omega arith in
      rw (drop_of_length-le a h, drop_of_length-le b short, and-true)

pub returns-then-a-b : goal.returns-then-a-b
returns-then-a-b c = sym (same_bytes-other _ _ (λ e. c.if-a-b.true (ap length e)))

pub loop-i-preserved : goal.loop-i-preserved
loop-i-preserved c =
    let args = c.args in
    let all = c.loop-i.all in (
      search rules,
      next args.a.now args.b.now c.if-a-b.false all c.loop-i.i c.loop-i-test.true ∙ c.loop-i.invariant.1,
    )

pub returns : goal.returns
returns c =
    let args = c.args in
    done args.a.now args.b.now c.if-a-b.false c.loop-i.all c.loop-i.i c.loop-i-test.false ∙ c.loop-i.invariant.1
