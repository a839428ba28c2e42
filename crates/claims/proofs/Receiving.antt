-- What is claimed of a trace that comes in chunks (document 02, request 5): each statement whole, proved by naming the law that stands in
-- another crate's `proofs/`. The words are those of `pieces`, `reader` and `receive`.
use mathlib.Core.Path.{◌≡◌, refl}
use mathlib.Core.Bool.{true, false}
use mathlib.Core.List.{List, ◌++◌}
use Prim.Native.Nat.{ℕ, ◌+◌, ◌-◌, ◌*◌, ◌%◌, ◌<◌, ◌≤◌}
use lib.ListN.{length, drop}
use denote.MutBor.{MutBor}
use denote.Ref.{Bor}
use Rattle.word.specs.Part.{Bytes}
use Rattle.refusal.specs.Refusals.{refused_in, refused, given, Placed}
use Rattle.replay.specs.Events.{first_illegal, run}
use Rattle.pieces.specs.Reading.{fed, from, reader, feed}
use Rattle.pieces.specs.Receiving.{join}
use Rattle.pieces.specs.Traces.{Format, heading, passing, broken, count, counted, traces, fresh}
use Rattle.pieces.specs.Claim.{Claim}
use Rattle.image.specs.Editions.{max_size}
use Rattle.reader.specs.Formats.{ImageReader}
use Rattle.reader.specs.Layout.{reader_size, bytes_of, reader_in}
use Rattle.reader.specs.WellFormed.{WellFormed, SoundReader}
use Rattle.receive.specs.Calls.{new_reader, lent_verdict, feed_verdict, feed_reader, feed_buffer, feed_taken, end_verdict, end_reader, end_buffer}
use Rattle.receive.specs.Receivers.{Receives, EndsAgain, Remembers}
use Rattle.hsc.specs.Calls.{feed_status, end_status}
use Rattle.pieces.proofs.Feeds.{bare}
use Rattle.pieces.proofs as pieces
use Rattle.reader.proofs as reader
use Rattle.receive.proofs as receive
use Rattle.hsc.proofs as hsc

-- ---- the calls, as the checker reads their contracts for a caller; none asks anything

pub hsc-reader-new : (κs : _) (reader reader' : MutBor (List ℕ)) → (hsc.receiving.hsc_reader_new.Reads.Asked κs (reader, tt) ≡ Unit)
    × (hsc.receiving.hsc_reader_new.Reads.Learnt κs (reader, tt) tt (reader', tt) ≡ (reader'.now ≡ new_reader))
hsc-reader-new κs reader reader' = (refl, refl)

pub hsc-reader-feed : (κs : _) (reader reader' : MutBor (List ℕ)) (chunk chunk' : Bor (List ℕ)) (buffer buffer' taken taken' : MutBor (List ℕ)) (r : ℕ)
    → (hsc.receiving.hsc_reader_feed.Reads.Asked κs (reader, (chunk, (buffer, (taken, tt)))) ≡ Unit)
    × (hsc.receiving.hsc_reader_feed.Reads.Learnt κs (reader, (chunk, (buffer, (taken, tt)))) r (reader', (chunk', (buffer', (taken', tt))))
    ≡ ((r ≡ feed_status reader.now chunk.now buffer.now)
    × ((reader'.now ≡ feed_reader reader.now chunk.now buffer.now)
    × ((buffer'.now ≡ feed_buffer reader.now chunk.now buffer.now)
    × (taken'.now ≡ feed_taken reader.now chunk.now buffer.now taken.now)))))
hsc-reader-feed κs reader reader' chunk chunk' buffer buffer' taken taken' r = (refl, refl)

pub hsc-reader-end : (κs : _) (reader reader' buffer buffer' : MutBor (List ℕ)) (r : ℕ)
    → (hsc.receiving.hsc_reader_end.Reads.Asked κs (reader, (buffer, tt)) ≡ Unit)
    × (hsc.receiving.hsc_reader_end.Reads.Learnt κs (reader, (buffer, tt)) r (reader', (buffer', tt))
    ≡ ((r ≡ end_status reader.now buffer.now)
    × ((reader'.now ≡ end_reader reader.now buffer.now) × (buffer'.now ≡ end_buffer reader.now buffer.now))))
hsc-reader-end κs reader reader' buffer buffer' r = (refl, refl)

-- ---- every image, in every cutting

-- A receiver that lends a new reader and a buffer of 68 bytes, feeds the rest of a chunk again after each snapshot, and then tells the end: of a
-- valid trace it has the replayed image's snapshots and the final state's; of any image the end answers the first fault in byte
-- order; and another cutting of the same bytes leaves it with the same.
pub received : (image buffer : List ℕ) (chunks : List (List ℕ)) → Bytes image → length buffer ≡ max_size → join chunks ≡ image
    → Receives image buffer chunks
received = receive.Receivers.receives-claim

-- the same of any format of images, before there are bytes of a reader
pub in-pieces : {width : ℕ} (F : Format width) → 0 < F.size → 0 < width → ((h : F.Head) → (F.shape h).header ≡ F.size)
    → (image : List ℕ) (chunks : List (List ℕ)) → join chunks ≡ image → Claim F image chunks
in-pieces = pieces.Theorem.claim

-- ---- one call over a chunk, in any format: `fed` has the reader after it, the bytes taken, and whether a snapshot is held

module _ {width : ℕ} (F : Format width) (some : 0 < F.size) (wide : 0 < width) where
  -- nothing is told before the header's last byte
  pub header-waits : (bs : List ℕ) → length bs < F.size → feed (traces F) (fresh F) bs ≡ fed (reader (traces F) heading bs) (length bs) false
  header-waits = pieces.Theorem.header-waits F some

  module _ (e rest : List ℕ) (whole : length e ≡ F.size) where
    -- snapshot 0 comes with it, and the call ends there
    pub header-hands : (h : F.Head) → F.opens e ≡ given h
        → feed (traces F) (fresh F) (e ++ rest) ≡ fed (bare F (counted F h 0 (F.start h))) F.size true
    header-hands = pieces.Theorem.header-hands F some e rest whole

    -- or a refusal: 2, 3
    pub header-refuses : (n t p : ℕ) → F.opens e ≡ refused_in n t p
        → feed (traces F) (fresh F) (e ++ rest) ≡ fed (bare F (broken n p)) (length (e ++ rest)) false
    header-refuses = pieces.Theorem.header-refuses F some e rest whole

  -- m whole events of a chunk from byte at on, where i were taken before, up to the next snapshot's place at most
  module _ (h : F.Head) (chunk : List ℕ) (at m i : ℕ) (s : (F.system h).State) (room : at + m * width ≤ length chunk) (more : i + m ≤ count F h)
      (near : i % (F.shape h).spacing + m ≤ (F.shape h).spacing) where
    abbrev bad : ℕ
    bad = first_illegal (F.system h) chunk at 0 m

    -- the first that is illegal is refused by 5, by its place in the trace
    pub event-refused : bad < m
        → feed (traces F) (bare F (counted F h i s)) (drop at chunk) ≡ fed (bare F (broken 5 (i + bad))) (length (drop at chunk)) false
    event-refused = pieces.Stretch.stretch-breaks F h chunk wide at m i s room more near

    -- the call ends with event jK - 1, and snapshot j is due
    pub place-reached : bad ≡ m → 0 < m → (i + m) % (F.shape h).spacing ≡ 0
        → feed (traces F) (bare F (counted F h i s)) (drop at chunk)
        ≡ fed (bare F (counted F h (i + m) (run (F.system h) s chunk at m))) (m * width) true
    place-reached = pieces.Stretch.stretch-stops F h chunk wide at m i s room more near

    -- and goes on from any other
    pub place-ahead : bad ≡ m → ((i + m) % (F.shape h).spacing ≡ 0 → 0 < m → ⊥)
        → feed (traces F) (bare F (counted F h i s)) (drop at chunk)
        ≡ from (m * width) (feed (traces F) (bare F (counted F h (i + m) (run (F.system h) s chunk at m))) (drop (at + m * width) chunk))
    place-ahead = pieces.Stretch.stretch-skips F h chunk wide at m i s room more near

  -- the snapshot area is passed over, whatever bytes stand there
  pub table-passed : (h : F.Head) (s : (F.system h).State) (n : ℕ) (bs : List ℕ) → length bs ≤ n
      → feed (traces F) (bare F (passing h s n)) bs ≡ fed (bare F (passing h s (n - length bs))) (length bs) false
  table-passed = pieces.Feeds.passing-feeds F

  -- and a byte too many is refused by 4
  pub byte-refused : (h : F.Head) (s : (F.system h).State) (n : ℕ) (bs : List ℕ) → n < length bs
      → feed (traces F) (bare F (passing h s n)) bs ≡ fed (bare F (broken 4 0)) (length bs) false
  byte-refused = pieces.Feeds.passing-breaks F

-- ---- the end told again, and a call after a refusal

pub end-again : (b buffer : List ℕ) → Bytes b → length b ≡ reader_size → (end_verdict b buffer ≡ refused 9 0 → ⊥) → EndsAgain b buffer
end-again = receive.Again.end-again

pub feed-refused-again : (b buffer : List ℕ) (n t p : ℕ) → Bytes b → length b ≡ reader_size → (n ≡ 9 → ⊥) → (chunk : List ℕ) → Bytes chunk
    → feed_verdict b chunk buffer ≡ refused_in n t p → Remembers (feed_reader b chunk buffer) n t p
feed-refused-again = receive.Again.feed-refused-again

pub end-refused-again : (b buffer : List ℕ) (n t p : ℕ) → Bytes b → length b ≡ reader_size → (n ≡ 9 → ⊥)
    → end_verdict b buffer ≡ refused_in n t p → Remembers (end_reader b buffer) n t p
end-refused-again = receive.Again.end-refused-again

-- ---- the reader's bytes

-- 9 leaves the reader, the buffer and the two numbers
pub nine-leaves : (b chunk buffer taken : List ℕ) (n t p : ℕ) → lent_verdict b buffer ≡ refused_in n t p
    → receive.Ready.Untouched b chunk buffer taken
nine-leaves = receive.Ready.nine-leaves

-- each call leaves a well-formed reader well formed
pub feed-stays : (b : List ℕ) → Bytes b → WellFormed b → (chunk buffer : List ℕ) → Bytes chunk → receive.Ready.Left (feed_reader b chunk buffer)
feed-stays = receive.Ready.feed-stays

pub end-stays : (b : List ℕ) → Bytes b → WellFormed b → (buffer : List ℕ) → receive.Ready.Left (end_reader b buffer)
end-stays = receive.Ready.end-stays

-- well-formed bytes and the readers that bytes of an image lead to translate to each other without loss
pub reader-back : (b : List ℕ) → Bytes b → WellFormed b → bytes_of (reader_in b) ≡ b
reader-back b bytes w = (reader.RoundTrip.reads b bytes w).back

pub reader-forth : (r : ImageReader) → SoundReader r → reader_in (bytes_of r) ≡ r
reader-forth r sound = (reader.RoundTrip.writes r sound).back

pub reader-formed : (r : ImageReader) → SoundReader r → WellFormed (bytes_of r)
reader-formed r sound = (reader.RoundTrip.writes r sound).formed

pub reader-sound : (b : List ℕ) → Bytes b → WellFormed b → SoundReader (reader_in b)
reader-sound b bytes w = (reader.RoundTrip.reads b bytes w).sound

-- a refusal's place fits its half of the status
pub feed-placed : (b buffer : List ℕ) → Bytes b → length b ≡ reader_size → (chunk : List ℕ) → Bytes chunk → Placed (feed_verdict b chunk buffer)
feed-placed = receive.Bounds.feed-placed

pub end-placed : (b buffer : List ℕ) → Bytes b → length b ≡ reader_size → Placed (end_verdict b buffer)
end-placed = receive.Bounds.end-placed
