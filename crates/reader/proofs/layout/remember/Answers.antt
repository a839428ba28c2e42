-- `reader::layout::remember` meets its contract: zeros, and the two numbers in their places.
use mathlib.Core.Path.{ap₂, ◌∙◌}
use mathlib.Core.List.{List}
use Prim.Native.Nat.{ℕ}
use Rattle.word.specs.Part.{put}
use Rattle.word.specs.LittleEndian.{to_bytes}
use Rattle.word.proofs.Part.{put-whole}
use Rattle.refusal.specs.Refusals.{number_of, place_of}
use Rattle.reader.specs.Formats.{zeros}
use Rattle.reader.specs.Layout.{reader_size}
use Rattle.reader.proofs.Laid.{laid-refused}
use Rattle.reader.proofs.layout.remember.Goals as goal

pub returns : goal.returns
returns c =
    let refusal = c.args.refusal in
    c.write_number-2.ensures
    ∙ ap₂ (λ (l : List ℕ) (p : ℕ). put l 44 (to_bytes 4 p))
    (c.write_number.ensures
    ∙ ap₂ (λ (l : List ℕ) (n : ℕ). put l 40 (to_bytes 4 n)) (c.clear.ensures ∙ put-whole c.args.bytes.now (zeros reader_size) c.told-bytes) c.number.ensures)
    c.place.ensures
    ∙ laid-refused (number_of refusal) (place_of refusal)
