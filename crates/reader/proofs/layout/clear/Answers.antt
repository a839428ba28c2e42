-- `reader::layout::clear` meets its contract: the part that is copied is as many zeros.
use mathlib.Core.Path.{ap, ◌∙◌}
use Prim.Native.Nat.{◌-◌}
use native.Mathlib.Omega.{arith}
use Rattle.word.specs.Part.{put}
use Rattle.reader.proofs.Padded.{front-zeros}
use Rattle.reader.proofs.layout.clear.Goals as goal

pub returns : goal.returns
returns c =
    let a = c.args in
    c.copy_over.ensures
    ∙ ap (put a.bytes.now a.at) (front-zeros (a.n - 0) a.n 116 (omega arith) (omega (arith, c.requires)))
