-- What 9, 5 and 6 leave: drawing is not refused exactly where the snapshot is well formed, the events are legal and the row has one
-- number for each.
use mathlib.Core.Path.{◌≡◌, sym}
use mathlib.Core.Logic.{◌↔◌}
use mathlib.Core.Bool.{Bool, true, not, ◌||◌}
use mathlib.Core.List.{List}
use Prim.Native.Nat.{ℕ, ◌*◌, ◌%◌, ◌<◌}
use native.Mathlib.Omega.{arith}
use borrow.Author.Tests.{eqb-true, eq-eqb, not-false}
use lib.Dec.{eqb}
use lib.ListN.{length}
use Rattle.refusal.specs.Refusals.{given}
use Rattle.refusal.proofs.Answers.{passed, none_of, both-passed, told-passed}
use Rattle.replay.proofs.Scan.{legal_at}
use Rattle.snapshot.specs.Widths.{event_size}
use Rattle.image.specs.declared.edition.Edition.{Edition}
use Rattle.image.specs.Editions.{system}
use Rattle.image.specs.Rows.{events_in}
use Rattle.image.specs.Verdicts.{events_verdict}
use Rattle.image.proofs.Accepted.{all-legal, legal-all}
use Rattle.draw.specs.Drawing.{bad_sizes, sizes_verdict, legal_verdict, form_verdict, draw_verdict}

-- what can be drawn into a row of room numbers
pub record Drawable (ed : Edition) (snapshot events : List ℕ) (room : ℕ) : Type 0 where
  pub sized : length snapshot ≡ (system ed).size
  pub whole : length events ≡ room * event_size
  pub legal : (i : ℕ) → i < room → legal_at (system ed) events 0 i ≡ true
  pub formed : (system ed).formed snapshot ≡ true

module _ (ed : Edition) (snapshot events : List ℕ) (room : ℕ) where
  abbrev sized : Bool
  sized = eqb (length snapshot) (system ed).size

  abbrev whole : Bool
  whole = eqb (length events % event_size) 0

  abbrev one-each : Bool
  one-each = eqb room (events_in events)

  pub sizes-passed : sizes_verdict ed snapshot events room ≡ given tt → (length snapshot ≡ (system ed).size) × (length events ≡ room * event_size)
  unfolding sizes_verdict
  sizes-passed v =
      let last = none_of (not sized || not whole) (not one-each) (passed (bad_sizes ed snapshot events room) 9 0 (given tt) v).0 in
      let both = none_of (not sized) (not whole) last.0 in
      let rows = eqb-true (length events % event_size) 0 (not-false whole both.1) in
      let same = eqb-true room (events_in events) (not-false one-each last.1) in
      (eqb-true (length snapshot) (system ed).size (not-false sized both.0), omega (arith, rows, same))

  -- the row has as many numbers as there are events
  pub row-count : length events ≡ room * event_size → events_in events ≡ room
  row-count e = omega (arith, e)

  pub drawn : draw_verdict ed snapshot events room ≡ given tt → Drawable ed snapshot events room
  unfolding draw_verdict legal_verdict form_verdict
  drawn v =
      let one = both-passed (sizes_verdict ed snapshot events room) _ v in
      let two = both-passed (legal_verdict ed events) (form_verdict ed snapshot) one.1 in
      let sizes = sizes-passed one.0 in
      let formed = (system ed).formed snapshot in
      let all = all-legal (system ed) events 0 5 (events_in events) (told-passed (events_verdict (system ed) 5 events 0 (events_in events)) two.0) in
      record {
        sized = sizes.0;
        whole = sizes.1;
        legal = λ i h. all i (omega (arith, row-count sizes.1));
        formed = not-false formed (passed (not formed) 6 0 (given tt) two.1).0;
      }

  pub drawable : Drawable ed snapshot events room → draw_verdict ed snapshot events room ≡ given tt
  unfolding draw_verdict sizes_verdict legal_verdict form_verdict
  drawable d =
      let count = row-count d.whole in
      rw (
        eq-eqb (length snapshot) (system ed).size d.sized,
        eq-eqb (length events % event_size) 0 (omega (arith, d.whole)),
        eq-eqb room (events_in events) (sym count),
        legal-all (system ed) events 0 5 (events_in events) (λ i h. d.legal i (omega (arith, count))),
        d.formed,
      )

-- none of 9, 5 and 6
pub draw-accepted : (ed : Edition) (snapshot events : List ℕ) (room : ℕ)
    → (draw_verdict ed snapshot events room ≡ given tt) ↔ Drawable ed snapshot events room
draw-accepted ed snapshot events room = (drawn ed snapshot events room, drawable ed snapshot events room)
