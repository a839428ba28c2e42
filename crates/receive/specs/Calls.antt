-- Document 02, request 5: what each call answers, and what it leaves in the reader, the buffer and the two numbers.
use Rattle.std.specs.Prelude.{Bool, cond, not, ◌||◌, List, [], ◌∷◌, ℕ, eqb, length}
use Rattle.word.specs.Part.{put}
use Rattle.refusal.specs.Refusals.{Answer, refused, given, ◌and_then◌, changed_if}
use Rattle.pieces.specs.Reading.{Fed, reader, feed}
use Rattle.pieces.specs.Traces.{verdict, ended, fresh, shown}
use Rattle.image.specs.Editions.{max_size}
use Rattle.reader.specs.Formats.{format, images, ImageReader}
use Rattle.reader.specs.Layout.{bytes_of, reader_in}
use Rattle.reader.specs.WellFormed.{formed}

-- ---- a new reader

abbrev pub new_reader : List ℕ
new_reader = bytes_of (fresh format)

-- ---- 9: the buffer isn't 68 bytes, or no call left these bytes in a reader

abbrev pub refuses : (b buffer : List ℕ) → Bool
refuses b buffer = not (eqb (length buffer) max_size) || not (formed b)

unfoldable pub lent_verdict : (b buffer : List ℕ) → Answer Unit
lent_verdict b buffer = cond (refuses b buffer) (refused 9 0) (given tt)

-- ---- a chunk: it goes on until the next snapshot's place or to the chunk's end

-- what it comes to, of a well-formed reader
abbrev pub fed_by : (b chunk : List ℕ) → Fed ImageReader
fed_by b chunk = feed images (reader_in b) chunk

-- the answer: 9, or the first refusal of the trace, from here on or remembered
unfoldable pub feed_verdict : (b chunk buffer : List ℕ) → Answer Unit
feed_verdict b chunk buffer = lent_verdict b buffer and_then verdict format (fed_by b chunk).reader.phase

-- the reader: where it is 9, as it was
abbrev pub feed_reader : (b chunk buffer : List ℕ) → List ℕ
feed_reader b chunk buffer = changed_if (lent_verdict b buffer) b (bytes_of (fed_by b chunk).reader)

-- the buffer: the snapshot, where its place was reached
abbrev pub feed_buffer : (b chunk buffer : List ℕ) → List ℕ
feed_buffer b chunk buffer =
    changed_if (feed_verdict b chunk buffer) buffer
    (cond (fed_by b chunk).holds (put buffer 0 (shown format (fed_by b chunk).reader.phase)) buffer)

-- the two numbers: how many bytes were taken, and 1 if the buffer holds a snapshot
abbrev pub feed_taken : (b chunk buffer taken : List ℕ) → List ℕ
feed_taken b chunk buffer taken =
    changed_if (feed_verdict b chunk buffer) taken ((fed_by b chunk).taken ∷ cond (fed_by b chunk).holds 1 0 ∷ [])

-- ---- the end

abbrev pub ended_by : List ℕ → ImageReader
ended_by b = reader images (ended format (reader_in b).phase) []

unfoldable pub end_verdict : (b buffer : List ℕ) → Answer Unit
end_verdict b buffer = lent_verdict b buffer and_then verdict format (ended_by b).phase

abbrev pub end_reader : (b buffer : List ℕ) → List ℕ
end_reader b buffer = changed_if (lent_verdict b buffer) b (bytes_of (ended_by b))

-- the buffer: the final state's snapshot
abbrev pub end_buffer : (b buffer : List ℕ) → List ℕ
end_buffer b buffer = changed_if (end_verdict b buffer) buffer (put buffer 0 (shown format (ended_by b).phase))
