-- The bytes of a number, as the language gives them, are copied.
use mathlib.Core.Path.{ap, ◌∙◌}
use Rattle.word.specs.Part.{put}
use Rattle.word.proofs.LittleEndian.{bytes-2}
use Rattle.word.proofs.bytes.U16LittleEndian.write.Goals as goal

pub returns : goal.returns
returns c = c.copy_over.ensures ∙ ap (put c.args.bytes.now c.args.at) (c.to_le_bytes.ensures ∙ bytes-2 c.args.self)
