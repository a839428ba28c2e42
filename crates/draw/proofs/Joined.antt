-- Drawing some events and then others is drawing all of them: the rows are appended, and the snapshot is the same.
use mathlib.Core.Path.{◌≡◌, sym, ap, ap₂, ◌∙◌}
use mathlib.Core.Bool.{true}
use mathlib.Core.List.{List, ◌++◌}
use Prim.Native.Nat.{ℕ, ◌+◌, ◌-◌, ◌*◌, ◌<◌}
use native.Mathlib.Decide.{dec_lt}
use native.Mathlib.Omega.{arith}
use lib.IntN.{ℤ}
use lib.ListN.{length, length-append}
use Rattle.word.specs.Part.{Bytes, part}
use Rattle.word.proofs.Part.{part-append, part-past}
use Rattle.refusal.specs.Refusals.{given}
use Rattle.replay.specs.System.{System}
use Rattle.replay.specs.Events.{run}
use Rattle.replay.specs.Counts.{after_each}
use Rattle.replay.proofs.Run.{run-add, run-read}
use Rattle.replay.proofs.Scan.{legal_at}
use Rattle.replay.proofs.Counts.{after-add, after-from, after-read}
use Rattle.snapshot.specs.Widths.{event_size}
use Rattle.image.specs.declared.edition.Edition.{Edition}
use Rattle.image.specs.Editions.{system, acc_of}
use Rattle.draw.specs.Drawing.{draw_verdict, draw_snapshot, counts, draw_row}
use Rattle.draw.proofs.Accepted.{Drawable, row-count, drawn, drawable}
use Rattle.draw.proofs.Left.{snapshot-left, row-left, left-sized, left-formed, left-decoded}

module _ (ed : Edition) (snapshot a b : List ℕ) (n m : ℕ) where
  abbrev S : System event_size
  S = system ed

  -- the snapshot between the two
  abbrev between : List ℕ
  between = draw_snapshot ed snapshot a n

  -- ---- the events of all, one by one

  module _ (whole : length a ≡ n * event_size) where
    in-first : (k : ℕ) → k < n → part (a ++ b) (0 + k * event_size) event_size ≡ part a (0 + k * event_size) event_size
    in-first k h = part-append a b (0 + k * event_size) event_size (omega (arith, whole))

    in-second : (k : ℕ) → part (a ++ b) (0 + n * event_size + k * event_size) event_size ≡ part b (0 + k * event_size) event_size
    in-second k =
        let place : 0 + n * event_size + k * event_size ≡ length a + (0 + k * event_size) = omega (arith, whole) in
        ap (λ (p : ℕ). part (a ++ b) p event_size) place ∙ part-past a b (0 + k * event_size) event_size

    legal-second : (k : ℕ) → legal_at S (a ++ b) 0 (n + k) ≡ legal_at S b 0 k
    legal-second k =
        let place : 0 + (n + k) * event_size ≡ 0 + n * event_size + k * event_size = omega arith in
        ap S.legal (ap (λ (p : ℕ). part (a ++ b) p event_size) place ∙ in-second k)

  module _ (bytes-s : Bytes snapshot) (bytes-a : Bytes a) where
    -- ---- what is refused

    first-part : Drawable ed snapshot (a ++ b) (n + m) → length a ≡ n * event_size → Drawable ed snapshot a n
    first-part all whole =
        record {
          sized = all.sized;
          whole = whole;
          legal = λ k h. ap S.legal (sym (in-first whole k h)) ∙ all.legal k (omega arith);
          formed = all.formed;
        }

    second-part : Drawable ed snapshot (a ++ b) (n + m) → (one : Drawable ed snapshot a n) → Drawable ed between b m
    second-part all one =
        record {
          sized = (left-sized ed snapshot a one bytes-s bytes-a).whole;
          whole = omega (arith, length-append a b, all.whole, one.whole);
          legal = λ k h. sym (legal-second one.whole k) ∙ all.legal (n + k) (omega arith);
          formed = left-formed ed snapshot a one bytes-s bytes-a;
        }

    all-parts : Drawable ed snapshot a n → Drawable ed between b m → Drawable ed snapshot (a ++ b) (n + m)
    all-parts one two =
        record {
          sized = one.sized;
          whole = length-append a b ∙ omega (arith, one.whole, two.whole);
          legal = λ k h. each k h (dec_lt k n);
          formed = one.formed;
        }
      where
        each : (k : ℕ) → k < n + m → Dec (k < n) → legal_at S (a ++ b) 0 k ≡ true
        each k h (yes l) = ap S.legal (in-first one.whole k l) ∙ one.legal k l
        each k h (no l) =
            let place : k ≡ n + (k - n) = omega arith in
            ap (legal_at S (a ++ b) 0) place ∙ legal-second one.whole (k - n) ∙ two.legal (k - n) (omega arith)

    -- drawing all is not refused exactly where drawing the first events and then the others is not
    pub parts-drawn : draw_verdict ed snapshot (a ++ b) (n + m) ≡ given tt → length a ≡ n * event_size
        → (draw_verdict ed snapshot a n ≡ given tt) × (draw_verdict ed between b m ≡ given tt)
    parts-drawn v whole =
        let all = drawn ed snapshot (a ++ b) (n + m) v in
        let one = first-part all whole in
        (drawable ed snapshot a n one, drawable ed between b m (second-part all one))

    pub all-drawn : draw_verdict ed snapshot a n ≡ given tt → draw_verdict ed between b m ≡ given tt → draw_verdict ed snapshot (a ++ b) (n + m) ≡ given tt
    all-drawn v w = drawable ed snapshot (a ++ b) (n + m) (all-parts (drawn ed snapshot a n v) (drawn ed between b m w))

    -- ---- what is left

    module _ (v : draw_verdict ed snapshot a n ≡ given tt) (w : draw_verdict ed between b m ≡ given tt) where
      one : Drawable ed snapshot a n
      one = drawn ed snapshot a n v

      two : Drawable ed between b m
      two = drawn ed between b m w

      all : Drawable ed snapshot (a ++ b) (n + m)
      all = all-parts one two

      abbrev s : S.State
      s = S.decode snapshot

      -- the state between the two
      reached : run S s (a ++ b) 0 n ≡ S.decode between
      reached = run-read S s (a ++ b) a 0 0 n (in-first one.whole) ∙ sym (left-decoded ed snapshot a one bytes-s bytes-a)

      pub joined-snapshot : draw_snapshot ed snapshot (a ++ b) (n + m) ≡ draw_snapshot ed between b m
      joined-snapshot =
          snapshot-left ed snapshot (a ++ b) all
          ∙ ap S.encode
          (run-add S s (a ++ b) 0 n m
          ∙ ap (λ (t : S.State). run S t (a ++ b) (0 + n * event_size) m) reached
          ∙ run-read S (S.decode between) (a ++ b) b (0 + n * event_size) 0 m (λ k h. in-second one.whole k))
          ∙ sym (snapshot-left ed between b two)

      rest-counts : after_each S (acc_of ed) s (a ++ b) 0 n m ≡ after_each S (acc_of ed) (S.decode between) b 0 0 m
      rest-counts =
          let from : n ≡ n + 0 = omega arith in
          ap (λ (i : ℕ). after_each S (acc_of ed) s (a ++ b) 0 i m) from
          ∙ after-from S (acc_of ed) s (a ++ b) 0 n 0 m
          ∙ ap (λ (t : S.State). after_each S (acc_of ed) t (a ++ b) (0 + n * event_size) 0 m) reached
          ∙ after-read S (acc_of ed) (S.decode between) (a ++ b) b (0 + n * event_size) 0 0 m (λ k h. in-second one.whole k)

      joined-counts : counts ed snapshot (a ++ b) ≡ counts ed snapshot a ++ counts ed between b
      joined-counts =
          let first = sym (row-count ed snapshot a n one.whole) in
          let second = sym (row-count ed between b m two.whole) in
          let from : 0 + n ≡ n = omega arith in
          ap (after_each S (acc_of ed) s (a ++ b) 0 0) (row-count ed snapshot (a ++ b) (n + m) all.whole)
          ∙ after-add S (acc_of ed) s (a ++ b) 0 0 n m
          ∙ ap₂ ◌++◌ (after-read S (acc_of ed) s (a ++ b) a 0 0 0 n (λ k h. in-first one.whole k (omega arith)))
          (ap (λ (i : ℕ). after_each S (acc_of ed) s (a ++ b) 0 i m) from ∙ rest-counts)
          ∙ ap₂ (λ (i j : ℕ). after_each S (acc_of ed) s a 0 0 i ++ after_each S (acc_of ed) (S.decode between) b 0 0 j) first second

      pub joined-row : (r q : List ℤ) → length r ≡ n → length q ≡ m
          → draw_row ed snapshot (a ++ b) (r ++ q) ≡ draw_row ed snapshot a r ++ draw_row ed between b q
      joined-row r q e f =
          row-left ed snapshot (a ++ b) all (r ++ q) (length-append r q ∙ ap₂ ◌+◌ e f)
          ∙ joined-counts
          ∙ sym (ap₂ ◌++◌ (row-left ed snapshot a one r e) (row-left ed between b two q f))
