-- The bytes after the end: as they were where nothing is missing or a refusal is remembered, else the refusal.
use mathlib.Core.Path.{◌≡◌, refl, sym, ap, ◌∙◌}
use mathlib.Core.List.{List, []}
use Prim.Native.Nat.{ℕ, zero, suc, ◌-◌, ◌≤◌, ◌<◌}
use native.Mathlib.Decide.{dec_lt}
use native.Mathlib.Omega.{arith}
use Rattle.word.specs.Part.{Bytes}
use Rattle.pieces.specs.Reading.{reader}
use Rattle.pieces.specs.Traces.{Phase, passing, broken, ended}
use Rattle.image.specs.Header.{header_size, system_of}
use Rattle.reader.specs.Formats.{format, images, ImageReader, events_end, image_end}
use Rattle.reader.specs.Layout.{laid, laid_phase, bytes_of, taken_in, header_in, number_in, state_in, reader_in}
use Rattle.reader.specs.WellFormed.{WellFormed}
use Rattle.receive.specs.Calls.{ended_by}
use Rattle.reader.proofs.Heads.{events-before}
use Rattle.reader.proofs.Views.{heading-view, opened-view, counting-view, passing-view, broken-view}

-- bytes past the events are missing
ended-short : (h : List ℕ) (s : (system_of h).State) (n : ℕ) → 0 < n → ended format (passing h s n) ≡ broken 4 0
unfolding ended
ended-short h s zero l = absurd (omega arith)
ended-short h s (suc n) l = refl

ended-whole : (h : List ℕ) (s : (system_of h).State) (n : ℕ) → n ≡ 0 → ended format (passing h s n) ≡ passing h s 0
unfolding ended
ended-whole h s n e = ap (λ (m : ℕ). ended format (passing h s m)) e

module _ (b : List ℕ) (bytes : Bytes b) (w : WellFormed b) where
  -- the reader after the end, where the reader before is in this phase
  by-phase : {r : ImageReader} {p : Phase format} → reader_in b ≡ r → ended format r.phase ≡ p → bytes_of (reader images p []) ≡ bytes_of (ended_by b)
  by-phase e q =
      sym
      (ap (λ (s : ImageReader). bytes_of (reader images (ended format s.phase) [])) e
      ∙ ap (λ (x : Phase format). bytes_of (reader images x [])) q)

  pub refused-ends : (number_in b ≡ 0 → ⊥) → b ≡ bytes_of (ended_by b)
  unfolding laid_phase ended
  refused-ends some = let v = broken-view b bytes w some in v.laid ∙ by-phase v.reader refl

  module _ (clear : number_in b ≡ 0) where
    pub heading-ends : taken_in b < header_size → laid 0 [] [] 1 0 [] ≡ bytes_of (ended_by b)
    unfolding laid_phase ended
    heading-ends l = by-phase (heading-view b bytes w clear l).reader refl

    module _ (past : header_size ≤ taken_in b) where
      abbrev h : List ℕ
      h = header_in b

      short-by : taken_in b < image_end h → Dec (taken_in b < events_end h) → laid 0 [] [] 4 0 [] ≡ bytes_of (ended_by b)
      unfolding laid_phase ended
      short-by l (yes m) = by-phase (counting-view b bytes w clear past m).reader refl
      short-by l (no m) =
          by-phase (passing-view b bytes w clear past (omega arith)).reader (ended-short h (state_in h b) (image_end h - taken_in b) (omega arith))

      pub short-ends : taken_in b < image_end h → laid 0 [] [] 4 0 [] ≡ bytes_of (ended_by b)
      short-ends l = short-by l (dec_lt (taken_in b) (events_end h))

      pub whole-ends : image_end h ≤ taken_in b → b ≡ bytes_of (ended_by b)
      unfolding laid_phase
      whole-ends l =
          let within = (opened-view b bytes w clear past).within in
          let v = passing-view b bytes w clear past (omega (arith, events-before h)) in
          let place : taken_in b ≡ image_end h - 0 = omega arith in
          v.laid
          ∙ ap (λ (n : ℕ). laid n h [] 0 0 ((system_of h).encode (state_in h b))) place
          ∙ by-phase v.reader (ended-whole h (state_in h b) (image_end h - taken_in b) (omega arith))
