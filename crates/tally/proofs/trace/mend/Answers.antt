-- `tally::trace::mend` meets its contract: it is mending over any machine, with events of one byte. The claim is the theorem of `replay` at
-- that answer.
use native.Mathlib.Nat.{div-one}
use lib.ListN.{length}
use Rattle.replay.specs.Traces.{shape_of}
use Rattle.replay.proofs.Theorem.{mended-by}
use Rattle.tally.specs.Tally.{tally}
use Rattle.tally.specs.Laws.{laws}
use Rattle.tally.proofs.trace.mend.Goals as goal

pub returns : goal.returns
returns c =
    let a = c.args in
    let answer = rw (div-one (length a.patch.now)) at c.mend.ensures in
    record {
      answer = answer;
      claim = λ t.
          mended-by tally laws (shape_of a.trace) a.image.now c.requires.replayable t a.first (length a.patch.now) a.patch.now
          c.requires.fitting _ answer;
    }
