-- `receive::new` meets its contract: a fresh reader is all zeros.
use mathlib.Core.Path.{sym, ◌∙◌}
use Rattle.word.proofs.Part.{put-whole}
use Rattle.reader.specs.Formats.{zeros}
use Rattle.reader.specs.Layout.{reader_size, laid_phase}
use Rattle.reader.proofs.Laid.{laid-zeros}
use Rattle.receive.proofs.new.Goals as goal

pub returns : goal.returns
unfolding laid_phase
returns c = c.clear.ensures ∙ put-whole c.args.reader.now (zeros reader_size) c.told-reader ∙ sym laid-zeros
