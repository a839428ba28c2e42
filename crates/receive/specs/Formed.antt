-- What a call over a well-formed reader leaves in the buffer and the two numbers.
use Rattle.std.specs.Prelude.{◌≡◌, cond, List, [], ◌∷◌, ℕ, Result, Ok, Err}
use Rattle.word.specs.Part.{put}
use Rattle.refusal.specs.declared.Refusal.{Refusal}
use Rattle.refusal.specs.Refusals.{given, refusal, changed_if}
use Rattle.pieces.specs.Traces.{verdict, shown}
use Rattle.reader.specs.Formats.{format}
use Rattle.receive.specs.Calls.{lent_verdict, fed_by, ended_by}

-- the reader in the lent bytes, or 9
abbrev pub Opened : (b buffer : List ℕ) → Result (List ℕ) Refusal → Type 0
Opened b buffer (Ok r) = (lent_verdict b buffer ≡ given tt) × (r ≡ b)
Opened b buffer (Err e) = lent_verdict b buffer ≡ refusal e

abbrev pub fed_buffer : (b chunk buffer : List ℕ) → List ℕ
fed_buffer b chunk buffer =
    changed_if (verdict format (fed_by b chunk).reader.phase) buffer
    (cond (fed_by b chunk).holds (put buffer 0 (shown format (fed_by b chunk).reader.phase)) buffer)

abbrev pub fed_taken : (b chunk taken : List ℕ) → List ℕ
fed_taken b chunk taken =
    changed_if (verdict format (fed_by b chunk).reader.phase) taken ((fed_by b chunk).taken ∷ cond (fed_by b chunk).holds 1 0 ∷ [])

abbrev pub ended_buffer : (b buffer : List ℕ) → List ℕ
ended_buffer b buffer = changed_if (verdict format (ended_by b).phase) buffer (put buffer 0 (shown format (ended_by b).phase))
