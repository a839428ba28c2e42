-- `word::parts::copy_over` meets its contract. The invariant: the first i elements of `src` are written, and `dst` is as long as it was.
use mathlib.Core.Path.{refl, sym, ap, ◌∙◌}
use Prim.Native.Nat.{◌+◌, zero-le}
use borrow.Author.Rules.{rules}
use lib.ListN.{take, set, length-set}
use Rattle.word.specs.Part.{put}
use Rattle.word.proofs.Put.{put-nil, put-more}
use Rattle.word.proofs.parts.copy_over.Goals as goal

pub loop-i-init : goal.loop-i-init
loop-i-init g c = (zero-le, sym (put-nil c.args.dst.now c.args.at), refl)

pub loop-i-preserved : goal.loop-i-preserved
loop-i-preserved g c =
    let args = c.args in
    let dst = args.dst.now in
    let src = args.src.now in
    let i = c.loop-i.i in
    let v = c.index-src-i.result in (
      search rules,
      ap (λ l. set l (args.at + i) v) c.loop-i.invariant.1
          ∙ (ap (λ w. set (put dst args.at (take i src)) (args.at + i) w) c.index-src-i.is
          ∙ put-more dst args.at src i v c.loop-i-test.true c.requires),
      rw length-set c.loop-i.invariant.2,
    )
