-- The remembered refusal, as the two numbers in the bytes tell it.
use mathlib.Core.Path.{◌≡◌, refl, sym, ap, ap₂, ◌∙◌}
use mathlib.Core.Bool.{false, false≢true}
use mathlib.Core.List.{List}
use Prim.Native.Nat.{ℕ}
use native.Mathlib.Decide.{ℕ_discrete}
use borrow.Author.Tests.{eq-eqb}
use lib.Dec.{ltb}
use Rattle.word.specs.Part.{Bytes}
use Rattle.word.proofs.Branches.{cond-cases}
use Rattle.refusal.specs.Refusals.{refused, given}
use Rattle.pieces.specs.Traces.{verdict}
use Rattle.image.specs.Header.{header_size}
use Rattle.reader.specs.Formats.{format, ImageReader, events_end}
use Rattle.reader.specs.Layout.{taken_in, header_in, number_in, place_in, opened_in, reader_in}
use Rattle.reader.specs.WellFormed.{fault, WellFormed}
use Rattle.reader.proofs.Views.{broken-view}

module _ (b : List ℕ) where
  -- none
  pub no-refusal : number_in b ≡ 0 → given tt ≡ verdict format (reader_in b).phase
  unfolding reader_in opened_in verdict
  no-refusal e =
      let t : ℕ = taken_in b in
      rw (eq-eqb (number_in b) 0 e)
      (cond-cases (λ (r : ImageReader). given tt ≡ verdict format r.phase) (ltb t header_size) _ _ (λ _. refl)
      (λ _. cond-cases (λ (r : ImageReader). given tt ≡ verdict format r.phase) (ltb t (events_end (header_in b))) _ _ (λ _. refl) (λ _. refl)))

  -- one
  module _ (bytes : Bytes b) (w : WellFormed b) (some : number_in b ≡ 0 → ⊥) where
    pub refusal-is : {n p : ℕ} → n ≡ number_in b → p ≡ place_in b → refused n p ≡ verdict format (reader_in b).phase
    unfolding verdict
    refusal-is e q = ap₂ refused e q ∙ ap (λ (r : ImageReader). verdict format r.phase) (sym (broken-view b bytes w some).reader)

  -- where the two numbers tell none, none is remembered
  pub none-told : Bytes b → WellFormed b → fault (number_in b) (place_in b) ≡ false → number_in b ≡ 0
  none-told bytes w none =
      elim (ℕ_discrete (number_in b) 0) [
        | yes e ↦ e
        | no some ↦ absurd (false≢true (sym none ∙ (broken-view b bytes w some).fault))
      ]
