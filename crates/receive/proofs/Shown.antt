-- The snapshot that stands in the reader is what its phase shows, where it has a state.
use mathlib.Core.Path.{◌≡◌, sym, ap, ◌∙◌, subst}
use mathlib.Core.List.{List}
use Prim.Native.Nat.{ℕ, ◌≤◌, ◌<◌}
use native.Mathlib.Decide.{dec_lt, ℕ_discrete}
use native.Mathlib.Omega.{arith}
use Rattle.word.specs.Part.{Bytes}
use Rattle.pieces.specs.Traces.{shown}
use Rattle.image.specs.Header.{header_size}
use Rattle.reader.specs.Formats.{format, ImageReader, events_end}
use Rattle.reader.specs.Layout.{taken_in, header_in, number_in, snapshot_in, reader_in}
use Rattle.reader.specs.WellFormed.{WellFormed}
use Rattle.pieces.proofs.Handed.{Runs}
use Rattle.reader.proofs.Views.{heading-view, opened-view, counting-view, passing-view, broken-view}

module _ (b : List ℕ) (bytes : Bytes b) (w : WellFormed b) where
  abbrev Shows : Type 0
  Shows = Runs format (reader_in b).phase → snapshot_in (header_in b) b ≡ shown format (reader_in b).phase

  -- a reader in this phase
  abbrev runs-in : {r : ImageReader} → reader_in b ≡ r → Runs format (reader_in b).phase → Runs format r.phase
  runs-in e = subst (λ (q : ImageReader). Runs format q.phase) e

  module _ (clear : number_in b ≡ 0) (past : header_size ≤ taken_in b) where
    past-shows : Dec (taken_in b < events_end (header_in b)) → Shows
    unfolding shown
    past-shows (yes l) _ =
        (opened-view b bytes w clear past).snapshot
        ∙ ap (λ (q : ImageReader). shown format q.phase) (sym (counting-view b bytes w clear past l).reader)
    past-shows (no l) _ =
        (opened-view b bytes w clear past).snapshot
        ∙ ap (λ (q : ImageReader). shown format q.phase) (sym (passing-view b bytes w clear past (omega arith)).reader)

  taken-shows : number_in b ≡ 0 → Dec (taken_in b < header_size) → Shows
  taken-shows clear (yes l) runs = absurd (runs-in (heading-view b bytes w clear l).reader runs)
  taken-shows clear (no l) runs = past-shows clear (omega arith) (dec_lt (taken_in b) (events_end (header_in b))) runs

  number-shows : Dec (number_in b ≡ 0) → Shows
  number-shows (yes e) runs = taken-shows e (dec_lt (taken_in b) header_size) runs
  number-shows (no n) runs = absurd (runs-in (broken-view b bytes w n).reader runs)

  pub shown-in : Shows
  shown-in = number-shows (ℕ_discrete (number_in b) 0)
