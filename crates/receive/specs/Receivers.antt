-- A receiver over the calls: the reader and the buffer that it lends each time.
use Rattle.std.specs.Prelude.{◌≡◌, List, [], ◌∷◌, ℕ, ◌-◌, ◌/◌, min, eqb, length, get_or}
use Rattle.refusal.specs.Refusals.{Answer, refused_in, given, ◌and_then◌}
use Rattle.replay.specs.Image.{snapshots}
use Rattle.pieces.specs.Reading.{fed}
use Rattle.pieces.specs.Receiving.{Calls, Received, join, drive}
use Rattle.pieces.specs.Claim.{firsts}
use Rattle.snapshot.specs.Widths.{event_size}
use Rattle.image.specs.Editions.{max_size}
use Rattle.image.specs.Header.{header_size, event_count, shape_of, system_of, header_verdict}
use Rattle.image.specs.Verdicts.{length_verdict, events_verdict, ValidTrace}
use Rattle.image_replay.specs.Replays.{replayed_image, final_snapshot}
use Rattle.receive.specs.Calls.{new_reader, feed_verdict, feed_reader, feed_buffer, feed_taken, end_verdict, end_reader, end_buffer}

pub record Lent : Type 0 where
  pub reader : List ℕ
  pub buffer : List ℕ

abbrev pub lent : (reader buffer : List ℕ) → Lent
lent reader buffer = record { reader = reader; buffer = buffer }

-- the two numbers that a call leaves, which it was lent as 0
abbrev pub numbers : Lent → List ℕ → List ℕ
numbers d chunk = feed_taken d.reader chunk d.buffer (0 ∷ 0 ∷ [])

-- it sees the two numbers and the buffer
abbrev pub calls : Calls
calls =
    record {
      Kept = Lent;
      feed = λ d chunk.
          fed (lent (feed_reader d.reader chunk d.buffer) (feed_buffer d.reader chunk d.buffer)) (get_or (numbers d chunk) 0 0)
          (eqb (get_or (numbers d chunk) 1 0) 1);
      shown = λ d. d.buffer;
    }

-- what it has after these chunks
abbrev pub receives : Lent → List (List ℕ) → Received Lent
receives = drive calls

-- from a new reader on
abbrev pub from_new : (buffer : List ℕ) → List (List ℕ) → Received Lent
from_new buffer = receives (lent new_reader buffer)

-- ---- of an image

-- how many events come whole
abbrev pub whole_events : List ℕ → ℕ
whole_events image = min (event_count image) ((length image - header_size) / event_size)

-- the first fault in byte order: 1, 2, 3; 5; 4
unfoldable pub first_fault : List ℕ → Answer Unit
first_fault image =
    header_verdict image
    and_then events_verdict (system_of image) 5 image header_size (whole_events image)
    and_then length_verdict image

-- the S snapshots of the replayed image, in order
abbrev pub replay_snapshots : List ℕ → List (List ℕ)
replay_snapshots image = firsts (system_of image) (shape_of image) (replayed_image image) (snapshots (shape_of image))

-- ---- the claim: every image, in every cutting

-- the receiver was handed all snapshots of replay, and the end accepts and gives the final state's
pub record Replays (image : List ℕ) (o : Received Lent) : Type 0 where
  pub out : o.out ≡ replay_snapshots image
  pub verdict : end_verdict o.reader.reader o.reader.buffer ≡ given tt
  pub buffer : end_buffer o.reader.reader o.reader.buffer ≡ final_snapshot image

-- `chunks` joined are `image`, and `buffer` is any of 68 bytes
pub record Receives (image buffer : List ℕ) (chunks : List (List ℕ)) : Type 0 where
  pub valid : ValidTrace image → Replays image (from_new buffer chunks)
  -- for every image the end answers its first fault
  pub every : end_verdict (from_new buffer chunks).reader.reader (from_new buffer chunks).reader.buffer ≡ first_fault image
  -- so an image is accepted only if it is a valid trace
  pub exact : first_fault image ≡ given tt → ValidTrace image
  -- two cuttings never differ
  pub cuttings : (others : List (List ℕ)) → join others ≡ join chunks → from_new buffer others ≡ from_new buffer chunks

-- ---- a call after the end, and after a refusal

-- the end told again, over the reader that the end left: any buffer, that buffer, and any where the end accepted
pub record EndsAgain (b buffer : List ℕ) : Type 0 where
  pub verdict : (other : List ℕ) → length other ≡ max_size → end_verdict (end_reader b buffer) other ≡ end_verdict b buffer
  pub reader : (other : List ℕ) → end_reader (end_reader b buffer) other ≡ end_reader b buffer
  pub same : end_buffer (end_reader b buffer) (end_buffer b buffer) ≡ end_buffer b buffer
  pub snapshot : (other : List ℕ) → length other ≡ max_size → end_verdict b buffer ≡ given tt
      → end_buffer (end_reader b buffer) other ≡ end_buffer b buffer

-- a reader of which every call refuses the same and leaves it
pub record Remembers (b : List ℕ) (number trace place : ℕ) : Type 0 where
  pub feeds : (chunk buffer : List ℕ) → length buffer ≡ max_size → feed_verdict b chunk buffer ≡ refused_in number trace place
  pub ends : (buffer : List ℕ) → length buffer ≡ max_size → end_verdict b buffer ≡ refused_in number trace place
  pub after-feed : (chunk buffer : List ℕ) → feed_reader b chunk buffer ≡ b
  pub after-end : (buffer : List ℕ) → end_reader b buffer ≡ b
