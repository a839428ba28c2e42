-- Document 02, request 1: "the unread rest of whichever trace is longer, as a part of that trace", "for any lengths and without refusal".
use Rattle.std.specs.Prelude.{cond, List, ℕ, ◌+◌, min, ltb, length, drop}
use Rattle.refusal.specs.declared.Trace.{Trace}
use Rattle.refusal.specs.declared.Trace.TheVariants.{First, Second}

-- the longer of two lengths; of equal ones the first
unfoldable pub longer : ℕ → ℕ → Trace
longer first second = cond (ltb first second) Second First

-- one of two things, by its trace
abbrev pub choose : {A : Type 0} → Trace → A → A → A
choose First first second = first
choose Second first second = second

-- which trace has the rest, and the place of its first byte there: the shorter's length
abbrev pub rest_trace : List ℕ → List ℕ → Trace
rest_trace first second = longer (length first) (length second)

abbrev pub rest_place : List ℕ → List ℕ → ℕ
rest_place first second = min (length first) (length second)

-- its bytes
abbrev pub rest_of : List ℕ → List ℕ → List ℕ
rest_of first second = drop (rest_place first second) (choose (rest_trace first second) first second)

-- where it stands: a reference points to a block of memory and an offset there
abbrev pub past : ℕ × ℕ → ℕ → ℕ × ℕ
past pointer n = (pointer.0, n + pointer.1)
