-- `reader::layout::header_number` meets its contract: a number of the header is one of the reader, past the header's place.
use mathlib.Core.Path.{sym, ap, ◌∙◌}
use native.Mathlib.Omega.{arith}
use Rattle.word.specs.LittleEndian.{of_bytes}
use Rattle.word.proofs.Part.{part-part}
use Rattle.image.specs.Header.{header_size}
use Rattle.reader.specs.Layout.{header_place}
use Rattle.reader.proofs.layout.header_number.Goals as goal

pub returns : goal.returns
returns c =
    let a = c.args in (
      c.number.ensures.0
          ∙ ap of_bytes (sym (part-part a.bytes.now header_place header_size a.at 4 (omega (arith, c.requires)) c.requires)),
      c.number.ensures.1,
    )
