-- Calls after the end, and after a refusal: the end told again answers and leaves the same, and so does every call of a reader that
-- remembers a refusal.
use mathlib.Core.Path.{◌≡◌, refl, sym, ap, ◌∙◌}
use mathlib.Core.List.{List, []}
use Prim.Native.Nat.{ℕ}
use lib.ListN.{length}
use Rattle.word.specs.Part.{Bytes}
use Rattle.word.proofs.Branches.{cond-cases}
use Rattle.refusal.specs.Refusals.{Answer, refused_in, refused, given, ◌and_then◌, changed_if}
use Rattle.refusal.proofs.Answers.{refused-given}
use Rattle.pieces.specs.Reading.{Fed, reader, feed}
use Rattle.pieces.specs.Traces.{Phase, heading, counting, passing, broken, shown, verdict, ended}
use Rattle.pieces.specs.Sound.{SoundAt}
use Rattle.pieces.proofs.Theorem.{Stays, end-twice, refused-stays}
use Rattle.image.specs.Editions.{max_size}
use Rattle.reader.specs.Formats.{format, images, ImageReader}
use Rattle.reader.specs.Layout.{reader_size, bytes_of, reader_in}
use Rattle.reader.specs.WellFormed.{Fault, SoundReader}
use Rattle.receive.specs.Calls.{refuses, lent_verdict, fed_by, feed_verdict, feed_reader, ended_by, end_verdict, end_reader, end_buffer}
use Rattle.receive.specs.Receivers.{EndsAgain, Remembers}
use Rattle.reader.proofs.Written.{Writes}
use Rattle.reader.proofs.RoundTrip.{writes}
use Rattle.receive.proofs.Ready.{Ready, passes-ready, fed-sound, end-sound, end-stays, feed-verdict, end-verdict}
use Rattle.receive.proofs.Ready.{feed-reader, end-reader, end-holds, end-shows, end-fills}

-- ---- refused otherwise than by 9

not-nine : (b buffer : List ℕ) (x : Answer Unit) → ((lent_verdict b buffer and_then x) ≡ refused 9 0 → ⊥) → lent_verdict b buffer ≡ given tt
unfolding lent_verdict
not-nine b buffer x =
    cond-cases (λ (v : Answer Unit). ((v and_then x) ≡ refused 9 0 → ⊥) → v ≡ given tt) (refuses b buffer) (refused 9 0) (given tt)
    (λ _ h. absurd (h refl)) (λ _ h. refl)

other-number : {n t p : ℕ} {v : Answer Unit} → v ≡ refused_in n t p → (n ≡ 9 → ⊥) → v ≡ refused 9 0 → ⊥
other-number e some q = some cc

-- bytes that change to the same stay, refused or not
kept : (v : Answer Unit) (old new : List ℕ) → new ≡ old → changed_if v old new ≡ old
kept (refused_in n t p) old new e = refl
kept (given x) old new e = e

-- ---- the end

module _ (b buffer : List ℕ) (r : Ready b buffer) where
  abbrev left : List ℕ
  left = end_reader b buffer

  ended-again : ended_by left ≡ ended_by b
  ended-again =
      ap (λ (x : ImageReader). reader images (ended format x.phase) []) (end-holds r)
      ∙ ap (λ (p : Phase format). reader images p []) (end-twice format (reader_in b).phase)

  again : (other : List ℕ) → length other ≡ max_size → Ready left other
  again other long = let s = end-stays b r.bytes r.formed buffer in record { formed = s.formed; bytes = s.bytes; long = long }

  verdict-again : (other : List ℕ) → length other ≡ max_size → end_verdict left other ≡ end_verdict b buffer
  verdict-again other long = end-verdict (again other long) ∙ ap (λ (x : ImageReader). verdict format x.phase) ended-again ∙ sym (end-verdict r)

  snapshot-again : (other : List ℕ) → length other ≡ max_size → end_verdict b buffer ≡ given tt → end_buffer left other ≡ end_buffer b buffer
  snapshot-again other long e =
      end-shows (again other long) (verdict-again other long ∙ e)
      ∙ ap (λ (x : ImageReader). shown format x.phase) ended-again
      ∙ sym (end-shows r e)

  same-again : (v : Answer Unit) → end_verdict b buffer ≡ v → end_buffer left (end_buffer b buffer) ≡ end_buffer b buffer
  same-again (refused_in n t p) e =
      let old : end_buffer b buffer ≡ buffer = rw e in
      let second : end_verdict left buffer ≡ refused_in n t p = verdict-again buffer r.long ∙ e in
      rw old (rw second)
  same-again (given x) e = snapshot-again (end_buffer b buffer) (end-fills r e) e

pub end-again : (b buffer : List ℕ) → Bytes b → length b ≡ reader_size → (end_verdict b buffer ≡ refused 9 0 → ⊥) → EndsAgain b buffer
unfolding end_verdict
end-again b buffer bytes whole some =
    let r : Ready b buffer = passes-ready b buffer bytes whole (not-nine b buffer (verdict format (ended_by b).phase) some) in
    record {
      verdict = verdict-again b buffer r;
      reader = λ other.
          kept (lent_verdict (end_reader b buffer) other) (end_reader b buffer) (bytes_of (ended_by (end_reader b buffer)))
          (ap bytes_of (ended-again b buffer r) ∙ sym (end-reader r));
      same = same-again b buffer r (end_verdict b buffer) refl;
      snapshot = snapshot-again b buffer r;
    }

-- ---- a refusal

-- a sound reader that remembers one has no bytes of a piece
refused-bare : (p : Phase format) (a : List ℕ) (n t k : ℕ) → SoundAt format Fault p a → verdict format p ≡ refused_in n t k → a ≡ []
unfolding verdict
refused-bare heading a n t k s e = absurd (refused-given (sym e))
refused-bare (counting h i q) a n t k s e = absurd (refused-given (sym e))
refused-bare (passing h q m) a n t k s e = absurd (refused-given (sym e))
refused-bare (broken m p) a n t k s e = s.1

module _ (x : ImageReader) (sound : SoundReader x) (n t p : ℕ) (e : verdict format x.phase ≡ refused_in n t p) where
  abbrev w : Writes x
  w = writes x sound

  abbrev b : List ℕ
  b = bytes_of x

  -- each call leaves the reader in the bytes
  stays-so : Stays format x.phase
  stays-so = refused-stays format x.phase n t p e

  bare-so : x ≡ reader images x.phase []
  bare-so = ap (reader images x.phase) (refused-bare x.phase x.got n t p sound e)

  fed-so : (chunk : List ℕ) → (fed_by b chunk).reader ≡ reader images x.phase []
  fed-so chunk = ap (λ (y : ImageReader). (feed images y chunk).reader) (w.back ∙ bare-so) ∙ ap (λ (o : Fed ImageReader). o.reader) (stays-so.feeds chunk)

  ended-so : ended_by b ≡ reader images x.phase []
  ended-so = ap (λ (y : ImageReader). reader images (ended format y.phase) []) w.back ∙ ap (λ (q : Phase format). reader images q []) stays-so.ends

  ready-so : (buffer : List ℕ) → length buffer ≡ max_size → Ready b buffer
  ready-so buffer long = record { formed = w.formed; bytes = w.bytes; long = long }

  remembers : Remembers b n t p
  remembers =
      record {
        feeds = λ chunk buffer long. feed-verdict (ready-so buffer long) chunk ∙ ap (λ (y : ImageReader). verdict format y.phase) (fed-so chunk) ∙ e;
        ends = λ buffer long. end-verdict (ready-so buffer long) ∙ ap (λ (y : ImageReader). verdict format y.phase) ended-so ∙ e;
        after-feed = λ chunk buffer. kept (lent_verdict b buffer) b (bytes_of (fed_by b chunk).reader) (ap bytes_of (fed-so chunk ∙ sym bare-so));
        after-end = λ buffer. kept (lent_verdict b buffer) b (bytes_of (ended_by b)) (ap bytes_of (ended-so ∙ sym bare-so));
      }

module _ (b buffer : List ℕ) (n t p : ℕ) (bytes : Bytes b) (whole : length b ≡ reader_size) (some : n ≡ 9 → ⊥) where
  pub feed-refused-again : (chunk : List ℕ) → Bytes chunk → feed_verdict b chunk buffer ≡ refused_in n t p → Remembers (feed_reader b chunk buffer) n t p
  unfolding feed_verdict
  feed-refused-again chunk c e =
      let x : ImageReader = (fed_by b chunk).reader in
      let r : Ready b buffer = passes-ready b buffer bytes whole (not-nine b buffer (verdict format x.phase) (other-number e some)) in
      rw (feed-reader r chunk) (remembers x (fed-sound b bytes r.formed chunk c) n t p (sym (feed-verdict r chunk) ∙ e))

  pub end-refused-again : end_verdict b buffer ≡ refused_in n t p → Remembers (end_reader b buffer) n t p
  unfolding end_verdict
  end-refused-again e =
      let x : ImageReader = ended_by b in
      let r : Ready b buffer = passes-ready b buffer bytes whole (not-nine b buffer (verdict format x.phase) (other-number e some)) in
      rw (end-reader r) (remembers x (end-sound b bytes r.formed) n t p (sym (end-verdict r) ∙ e))
