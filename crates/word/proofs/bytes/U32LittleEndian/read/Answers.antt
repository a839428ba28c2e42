-- The number in four bytes, as the language reads it.
use mathlib.Core.Path.{◌∙◌}
use Rattle.word.proofs.LittleEndian.{number_at-4}
use Rattle.word.proofs.bytes.U32LittleEndian.read.Goals as goal

pub returns : goal.returns
returns c = c.from_le_bytes.ensures ∙ number_at-4 c.args.bytes.now c.args.at c.requires
