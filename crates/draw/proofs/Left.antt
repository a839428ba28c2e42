-- What drawing leaves: the row has the accumulator after each event, and the snapshot is that of the state after all of them, which is good,
-- so that it is well formed and is read back.
use mathlib.Core.Path.{◌≡◌, ap, ◌∙◌}
use mathlib.Core.Bool.{true}
use mathlib.Core.List.{List}
use Prim.Native.Nat.{ℕ, ◌+◌, ◌*◌, ◌≤◌, ◌<◌}
use native.Mathlib.Omega.{arith}
use lib.IntN.{ℤ}
use lib.ListN.{length, get_or}
use Rattle.word.specs.Part.{Bytes}
use Rattle.word.proofs.Part.{length-part, bytes-part}
use Rattle.replay.specs.System.{System, Sized}
use Rattle.replay.specs.Image.{Shape, event}
use Rattle.replay.specs.Events.{run}
use Rattle.replay.proofs.Run.{run-good}
use Rattle.replay.proofs.Counts.{length-after, after-at}
use Rattle.snapshot.specs.Widths.{event_size}
use Rattle.image.specs.declared.edition.Edition.{Edition}
use Rattle.image.specs.Editions.{system, acc_of}
use Rattle.image.specs.Rows.{events_in}
use Rattle.image.proofs.Laws.{laws}
use Rattle.draw.specs.Drawing.{draw_snapshot, counts, draw_row}
use Rattle.draw.proofs.Accepted.{Drawable, row-count, drawable}

module _ (ed : Edition) (snapshot events : List ℕ) {room : ℕ} (can : Drawable ed snapshot events room) where
  abbrev S : System event_size
  S = system ed

  -- as many events as numbers
  count : events_in events ≡ room
  count = row-count ed snapshot events room can.whole

  pub snapshot-left : draw_snapshot ed snapshot events room ≡ S.encode (run S (S.decode snapshot) events 0 room)
  snapshot-left = rw (drawable ed snapshot events room can, count)

  -- number i is the accumulator after i + 1 events
  count-at : (i : ℕ) (d : ℤ) → i < room → get_or (counts ed snapshot events) i d ≡ acc_of ed (run S (S.decode snapshot) events 0 (i + 1))
  count-at i d h =
      after-at S (acc_of ed) (S.decode snapshot) events 0 0 (events_in events) i d (omega (arith, count))
      ∙ ap (λ (n : ℕ). acc_of ed (run S (S.decode snapshot) events 0 (n + 1))) (omega arith)

  module _ (row : List ℤ) (fits : length row ≡ room) where
    pub row-left : draw_row ed snapshot events row ≡ counts ed snapshot events
    row-left = rw (fits, drawable ed snapshot events room can)

    pub row-long : length (draw_row ed snapshot events row) ≡ room
    row-long = ap length row-left ∙ length-after S (acc_of ed) (S.decode snapshot) events 0 0 (events_in events) ∙ count

    pub row-at : (i : ℕ) (d : ℤ) → i < room → get_or (draw_row ed snapshot events row) i d ≡ acc_of ed (run S (S.decode snapshot) events 0 (i + 1))
    row-at i d h = ap (λ (l : List ℤ). get_or l i d) row-left ∙ count-at i d h

  module _ (bytes-s : Bytes snapshot) (bytes-e : Bytes events) where
    before-good : S.Good (S.decode snapshot)
    before-good = (laws ed).decode-good snapshot (record { whole = can.sized; bytes = bytes-s }) can.formed

    -- the events as those of an image without a header
    abbrev row-shape : Shape
    row-shape = record { header = 0; count = room; spacing = 1 }

    pub after-good : (n : ℕ) → n ≤ room → S.Good (run S (S.decode snapshot) events 0 n)
    unfolding event
    after-good n h =
        run-good S (laws ed) row-shape (S.decode snapshot) events 0 n before-good λ k l r.
        let inside : 0 + k * event_size + event_size ≤ length events = omega (arith, can.whole) in
        record {
          legal = can.legal k (omega arith);
          whole = length-part events (0 + k * event_size) event_size inside;
          bytes = bytes-part events (0 + k * event_size) event_size bytes-e;
        }

    pub left-sized : Sized S (draw_snapshot ed snapshot events room)
    left-sized = rw snapshot-left ((laws ed).sized-encode _ (after-good room (omega arith)))

    pub left-formed : S.formed (draw_snapshot ed snapshot events room) ≡ true
    left-formed = rw snapshot-left ((laws ed).formed-encode _ (after-good room (omega arith)))

    pub left-decoded : S.decode (draw_snapshot ed snapshot events room) ≡ run S (S.decode snapshot) events 0 room
    left-decoded = rw snapshot-left ((laws ed).decode-encode _ (after-good room (omega arith)))
