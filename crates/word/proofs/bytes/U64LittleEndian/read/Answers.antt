-- The number in eight bytes, as the language reads it.
use mathlib.Core.Path.{◌∙◌}
use Rattle.word.proofs.LittleEndian.{number_at-8}
use Rattle.word.proofs.bytes.U64LittleEndian.read.Goals as goal

pub returns : goal.returns
returns c = c.from_le_bytes.ensures ∙ number_at-8 c.args.bytes.now c.args.at c.requires
