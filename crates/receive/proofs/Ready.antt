-- What the calls leave: where they refuse by 9, all as it was; else the reader in the bytes goes on, and the bytes stay well formed.
use mathlib.Core.Path.{◌≡◌, refl, sym, ap, ◌∙◌}
use mathlib.Core.Bool.{Bool, true, false, cond, not}
use mathlib.Core.List.{List, []}
use Prim.Native.Nat.{ℕ}
use borrow.Author.Tests.{eq-eqb, eqb-true, not-false}
use lib.Dec.{eqb, lit<}
use lib.ListN.{length}
use Rattle.word.specs.Part.{Bytes, put}
use Rattle.word.proofs.Part.{put-whole}
use Rattle.refusal.specs.Refusals.{Answer, refused_in, given, changed_if}
use Rattle.refusal.proofs.Answers.{passed, none_of}
use Rattle.pieces.specs.Traces.{Phase, heading, counting, passing, broken, fresh, shown, verdict}
use Rattle.pieces.specs.Sound.{SoundAt}
use Rattle.pieces.proofs.Sound.{fresh-sound, feed-sound, ended-sound}
use Rattle.image.specs.declared.edition.Edition.{Edition}
use Rattle.image.specs.declared.edition.Edition.TheVariants.{Base}
use Rattle.image.specs.Editions.{system, max_size}
use Rattle.image.specs.Header.{edition_of}
use Rattle.image.proofs.Laws.{laws}
use Rattle.reader.specs.Formats.{format, ImageReader}
use Rattle.reader.specs.Layout.{reader_size, bytes_of, reader_in}
use Rattle.reader.specs.WellFormed.{Fault, SoundReader, formed, WellFormed}
use Rattle.receive.specs.Calls.{new_reader, refuses, lent_verdict, fed_by, feed_verdict, feed_reader, feed_buffer, feed_taken}
use Rattle.receive.specs.Calls.{ended_by, end_verdict, end_reader, end_buffer}
use Rattle.reader.proofs.Heads.{faults, sound-laws, sound-starts}
use Rattle.reader.proofs.Written.{Writes}
use Rattle.reader.proofs.RoundTrip.{reads, writes}
use Rattle.pieces.proofs.Handed.{Runs, runs-passes, feed-runs, ended-runs}

-- ---- 9

-- everything as it was
pub record Untouched (b chunk buffer taken : List ℕ) : Type 0 where
  pub feed-reader : feed_reader b chunk buffer ≡ b
  pub feed-buffer : feed_buffer b chunk buffer ≡ buffer
  pub feed-taken : feed_taken b chunk buffer taken ≡ taken
  pub end-reader : end_reader b buffer ≡ b
  pub end-buffer : end_buffer b buffer ≡ buffer

pub nine-leaves : (b chunk buffer taken : List ℕ) (n t p : ℕ) → lent_verdict b buffer ≡ refused_in n t p → Untouched b chunk buffer taken
unfolding feed_verdict end_verdict
nine-leaves b chunk buffer taken n t p e =
    record { feed-reader = rw e; feed-buffer = rw e; feed-taken = rw e; end-reader = rw e; end-buffer = rw e }

-- ---- a reader and a buffer that a call takes

-- what it leaves in the reader
pub record Left (b : List ℕ) : Type 0 where
  pub formed : WellFormed b
  pub bytes : Bytes b

pub record Ready (b buffer : List ℕ) : Type 0 where
  pub formed : WellFormed b
  pub bytes : Bytes b
  pub long : length buffer ≡ max_size

pub ready-passes : {b buffer : List ℕ} → Ready b buffer → lent_verdict b buffer ≡ given tt
unfolding lent_verdict
ready-passes {b} {buffer} r = rw (eq-eqb (length buffer) max_size r.long, r.formed.formed)

-- every reader of 116 bytes, where the call doesn't refuse by 9
pub passes-ready : (b buffer : List ℕ) → Bytes b → length b ≡ reader_size → lent_verdict b buffer ≡ given tt → Ready b buffer
unfolding lent_verdict
passes-ready b buffer bytes whole e =
    let both = none_of (not (eqb (length buffer) max_size)) (not (formed b)) (passed (refuses b buffer) 9 0 (given tt) e).0 in
    record {
      formed = record { whole = whole; formed = not-false (formed b) both.1 };
      bytes = bytes;
      long = eqb-true (length buffer) max_size (not-false (eqb (length buffer) max_size) both.0);
    }

-- a new reader holds the fresh one
pub new-sound : SoundReader (fresh format)
new-sound = fresh-sound format Fault faults sound-laws sound-starts (lit< tt) (lit< tt)

pub new-ready : (buffer : List ℕ) → length buffer ≡ max_size → Ready new_reader buffer
new-ready buffer e =
    let w : Writes (fresh format) = writes (fresh format) new-sound in
    record { formed = w.formed; bytes = w.bytes; long = e }

pub new-holds : reader_in new_reader ≡ fresh format
new-holds = (writes (fresh format) new-sound).back

-- ---- what they show

size-whole : (ed : Edition) → (system ed).size ≡ max_size
size-whole Base = refl

-- a snapshot fills the buffer
pub shown-long : (p : Phase format) (a : List ℕ) → SoundAt format Fault p a → Runs format p → length (shown format p) ≡ max_size
unfolding shown
shown-long heading a s r = absurd r
shown-long (counting h i t) a s r = ((laws (edition_of h)).sized-encode t s.2).whole ∙ size-whole (edition_of h)
shown-long (passing h t n) a s r = ((laws (edition_of h)).sized-encode t s.1).whole ∙ size-whole (edition_of h)
shown-long (broken n p) a s r = absurd r

-- a buffer that is as it was or holds one is as long as before
buffer-long : (buffer : List ℕ) (v : Answer Unit) (t : Bool) (new : List ℕ) → length buffer ≡ max_size → (t ≡ true → length new ≡ max_size)
    → length (changed_if v buffer (cond t new buffer)) ≡ max_size
buffer-long buffer (refused_in n k p) t new old h = old
buffer-long buffer (given x) true new old h = h refl
buffer-long buffer (given x) false new old h = old

-- ---- the reader in the bytes

module _ (b : List ℕ) (bytes : Bytes b) (w : WellFormed b) where
  pub held-sound : SoundReader (reader_in b)
  held-sound = (reads b bytes w).sound

  pub fed-sound : (chunk : List ℕ) → Bytes chunk → SoundReader (fed_by b chunk).reader
  fed-sound chunk c = feed-sound format Fault faults sound-laws sound-starts (lit< tt) (lit< tt) (reader_in b) chunk c held-sound

  pub end-sound : SoundReader (ended_by b)
  end-sound = ended-sound format Fault faults sound-laws sound-starts (lit< tt) (lit< tt) (reader_in b) held-sound

  -- ---- the bytes stay well formed

  stays : (v : Answer Unit) (r : ImageReader) → SoundReader r → Left (changed_if v b (bytes_of r))
  stays (refused_in n t p) r s = record { formed = w; bytes = bytes }
  stays (given x) r s = record { formed = (writes r s).formed; bytes = (writes r s).bytes }

  pub feed-stays : (chunk buffer : List ℕ) → Bytes chunk → Left (feed_reader b chunk buffer)
  feed-stays chunk buffer c = stays (lent_verdict b buffer) (fed_by b chunk).reader (fed-sound chunk c)

  pub end-stays : (buffer : List ℕ) → Left (end_reader b buffer)
  end-stays buffer = stays (lent_verdict b buffer) (ended_by b) end-sound

-- ---- what the calls answer and leave, where they don't refuse by 9

module _ {b buffer : List ℕ} (r : Ready b buffer) where
  pub feed-verdict : (chunk : List ℕ) → feed_verdict b chunk buffer ≡ verdict format (fed_by b chunk).reader.phase
  unfolding feed_verdict
  feed-verdict chunk = rw (ready-passes r)

  pub end-verdict : end_verdict b buffer ≡ verdict format (ended_by b).phase
  unfolding end_verdict
  end-verdict = rw (ready-passes r)

  pub feed-reader : (chunk : List ℕ) → feed_reader b chunk buffer ≡ bytes_of (fed_by b chunk).reader
  feed-reader chunk = rw (ready-passes r)

  pub end-reader : end_reader b buffer ≡ bytes_of (ended_by b)
  end-reader = rw (ready-passes r)

  pub fed-holds : (chunk : List ℕ) → Bytes chunk → reader_in (feed_reader b chunk buffer) ≡ (fed_by b chunk).reader
  fed-holds chunk c = ap reader_in (feed-reader chunk) ∙ (writes (fed_by b chunk).reader (fed-sound b r.bytes r.formed chunk c)).back

  pub end-holds : reader_in (end_reader b buffer) ≡ ended_by b
  end-holds = ap reader_in end-reader ∙ (writes (ended_by b) (end-sound b r.bytes r.formed)).back

  -- ---- the buffer, which a snapshot fills

  fed-long : (chunk : List ℕ) → Bytes chunk → (fed_by b chunk).holds ≡ true → length (shown format (fed_by b chunk).reader.phase) ≡ max_size
  fed-long chunk c t =
      let x : ImageReader = (fed_by b chunk).reader in
      shown-long x.phase x.got (fed-sound b r.bytes r.formed chunk c) (feed-runs format (reader_in b) chunk t)

  fed-whole : (chunk : List ℕ) → Bytes chunk → (fed_by b chunk).holds ≡ true
      → put buffer 0 (shown format (fed_by b chunk).reader.phase) ≡ shown format (fed_by b chunk).reader.phase
  fed-whole chunk c t = put-whole buffer (shown format (fed_by b chunk).reader.phase) (r.long ∙ sym (fed-long chunk c t))

  pub feed-shows : (chunk : List ℕ) → Bytes chunk → (fed_by b chunk).holds ≡ true → feed_buffer b chunk buffer ≡ shown format (fed_by b chunk).reader.phase
  feed-shows chunk c t =
      let passes : feed_verdict b chunk buffer ≡ given tt =
      feed-verdict chunk ∙ runs-passes format (fed_by b chunk).reader.phase (feed-runs format (reader_in b) chunk t) in
      rw (passes, t) (fed-whole chunk c t)

  pub feed-long : (chunk : List ℕ) → Bytes chunk → length (feed_buffer b chunk buffer) ≡ max_size
  feed-long chunk c =
      buffer-long buffer (feed_verdict b chunk buffer) (fed_by b chunk).holds (put buffer 0 (shown format (fed_by b chunk).reader.phase)) r.long
      (λ t. ap length (fed-whole chunk c t) ∙ fed-long chunk c t)

  end-long : end_verdict b buffer ≡ given tt → length (shown format (ended_by b).phase) ≡ max_size
  end-long e =
      shown-long (ended_by b).phase [] (end-sound b r.bytes r.formed) (ended-runs format (reader_in b).phase (sym end-verdict ∙ e))

  pub end-shows : end_verdict b buffer ≡ given tt → end_buffer b buffer ≡ shown format (ended_by b).phase
  end-shows e = rw e (put-whole buffer (shown format (ended_by b).phase) (r.long ∙ sym (end-long e)))

  pub end-fills : end_verdict b buffer ≡ given tt → length (end_buffer b buffer) ≡ max_size
  end-fills e = ap length (end-shows e) ∙ end-long e
