-- A receiver over the calls has what one over the reader itself has, call by call; and its buffer holds what was handed out last.
use mathlib.Core.Path.{◌≡◌, refl, sym, ap, ◌∙◌, subst}
use mathlib.Core.Bool.{Bool, true, false, cond, false≢true}
use mathlib.Core.List.{List, [], ◌∷◌, ◌++◌}
use Prim.Native.Nat.{ℕ, zero, suc}
use lib.Dec.{eqb}
use lib.ListN.{length, get_or, drop}
use Rattle.word.specs.Part.{Bytes, put}
use Rattle.word.proofs.Branches.{cond-cases}
use Rattle.refusal.specs.Refusals.{Answer, refused_in, given, changed_if}
use Rattle.refusal.proofs.Answers.{refused-given}
use Rattle.pieces.specs.Reading.{Fed}
use Rattle.pieces.specs.Receiving.{calls_of, Received, received, after, AllBytes, drain, drive}
use Rattle.pieces.specs.Traces.{shown}
use Rattle.pieces.specs.Claim.{whole}
use Rattle.pieces.proofs.Receiving.{Alike, DrivenAlike, drive-alike}
use Rattle.image.specs.Editions.{max_size}
use Rattle.reader.specs.Formats.{format, images, ImageReader}
use Rattle.reader.specs.Layout.{bytes_of, reader_in}
use Rattle.receive.specs.Calls.{new_reader, fed_by, feed_verdict}
use Rattle.receive.specs.Receivers.{Lent, lent, calls, receives, from_new}
use Rattle.reader.proofs.RoundTrip.{reads}
use Rattle.pieces.proofs.Handed.{feed-runs, runs-passes}
use Rattle.receive.proofs.Ready.{Ready, new-ready, new-holds, feed-stays, feed-verdict, fed-holds, feed-shows, feed-long}

-- ---- the two numbers

module _ (n : ℕ) where
  abbrev two : Answer Unit → Bool → List ℕ
  two v t = changed_if v (0 ∷ 0 ∷ []) (n ∷ cond t 1 0 ∷ [])

  told-holds : (v : Answer Unit) (t : Bool) → (t ≡ true → v ≡ given tt) → eqb (get_or (two v t) 1 0) 1 ≡ t
  told-holds (refused_in m k p) true h = absurd (refused-given (h refl))
  told-holds (refused_in m k p) false h = refl
  told-holds (given x) true h = refl
  told-holds (given x) false h = refl

  told-taken : (v : Answer Unit) (t : Bool) → v ≡ given tt → get_or (two v t) 0 0 ≡ n
  told-taken (refused_in m k p) t e = absurd (refused-given e)
  told-taken (given x) t e = refl

  -- where nothing is handed out, the buffer stays
  told-none : (v : Answer Unit) (t : Bool) (buffer new : List ℕ) → eqb (get_or (two v t) 1 0) 1 ≡ false → changed_if v buffer (cond t new buffer) ≡ buffer
  told-none (refused_in m k p) t buffer new e = refl
  told-none (given x) true buffer new e = absurd (false≢true (sym e))
  told-none (given x) false buffer new e = refl

-- ---- the buffer holds what was handed out last

abbrev last : List ℕ → List (List ℕ) → List ℕ
last a [] = a
last a (x ∷ xs) = last x xs

last-append : (a : List ℕ) (xs ys : List (List ℕ)) → last a (xs ++ ys) ≡ last (last a xs) ys
last-append a [] ys = refl
last-append a (x ∷ xs) ys = last-append x xs ys

drain-last : (n : ℕ) (d : Lent) (c : List ℕ) → (drain calls n d c).reader.buffer ≡ last d.buffer (drain calls n d c).out
unfolding drain
drain-last zero d c = refl
drain-last (suc n) d c =
    let o : Fed Lent = calls.feed d c in
    let b : List ℕ = d.reader in
    cond-cases (λ (x : Received Lent). x.reader.buffer ≡ last d.buffer x.out) o.holds
    (after (o.reader.buffer ∷ []) (drain calls n o.reader (drop o.taken c))) (received o.reader [])
    (λ e. drain-last n o.reader (drop o.taken c))
    (told-none (fed_by b c).taken (feed_verdict b c d.buffer) (fed_by b c).holds d.buffer (put d.buffer 0 (shown format (fed_by b c).reader.phase)))

drive-last : (d : Lent) (cs : List (List ℕ)) → (receives d cs).reader.buffer ≡ last d.buffer (receives d cs).out
unfolding drive
drive-last d [] = refl
drive-last d (c ∷ cs) =
    let o : Received Lent = drain calls (suc (length c)) d c in
    drive-last o.reader cs
    ∙ ap (λ (a : List ℕ). last a (receives o.reader cs).out) (drain-last (suc (length c)) d c)
    ∙ sym (last-append d.buffer o.out (receives o.reader cs).out)

-- ---- a call over the bytes is the call over the reader in them

abbrev pub view : Lent → ImageReader
view d = reader_in d.reader

abbrev pub Held : Lent → Type 0
Held d = Ready d.reader d.buffer

alike : (d : Lent) (c : List ℕ) → Held d → Bytes c → Alike (calls_of images) calls view Held d c
alike d c r bytes =
    let b : List ℕ = d.reader in
    let o : Fed ImageReader = fed_by b c in
    let v : Answer Unit = feed_verdict b c d.buffer in
    let stays = feed-stays b r.bytes r.formed c d.buffer bytes in
    let passes : o.holds ≡ true → v ≡ given tt =
    λ t. feed-verdict r c ∙ runs-passes format o.reader.phase (feed-runs format (reader_in b) c t) in
    let holds : (calls.feed d c).holds ≡ o.holds = told-holds o.taken v o.holds passes in
    record {
      inv = record { formed = stays.formed; bytes = stays.bytes; long = feed-long r c bytes };
      seen = fed-holds r c bytes;
      holds = holds;
      taken = λ t. told-taken o.taken v o.holds (passes (sym holds ∙ t));
      shown = λ t. feed-shows r c bytes (sym holds ∙ t);
    }

-- so is what a receiver has, from a new reader on
module _ (buffer : List ℕ) (long : length buffer ≡ max_size) where
  pub driven : (cs : List (List ℕ)) → AllBytes cs → DrivenAlike (calls_of images) calls view Held (from_new buffer cs) (whole format cs)
  driven cs bytes =
      subst (λ (x : ImageReader). DrivenAlike (calls_of images) calls view Held (from_new buffer cs) (drive (calls_of images) x cs)) new-holds
      (drive-alike (calls_of images) calls view Held alike (lent new_reader buffer) cs (new-ready buffer long) bytes)

  left : (cs : List (List ℕ)) → AllBytes cs → (from_new buffer cs).reader.reader ≡ bytes_of (whole format cs).reader
  left cs bytes =
      let a = driven cs bytes in
      sym (reads (from_new buffer cs).reader.reader a.inv.bytes a.inv.formed).back ∙ ap bytes_of a.seen

  -- where the reader has the same and was handed the same, all is the same
  pub same-received : (others cs : List (List ℕ)) → AllBytes others → AllBytes cs → whole format others ≡ whole format cs
      → from_new buffer others ≡ from_new buffer cs
  same-received others cs p q e =
      let out : (from_new buffer others).out ≡ (from_new buffer cs).out =
      (driven others p).out ∙ ap (λ (o : Received ImageReader). o.out) e ∙ sym (driven cs q).out in
      let bytes : (from_new buffer others).reader.reader ≡ (from_new buffer cs).reader.reader =
      left others p ∙ ap (λ (o : Received ImageReader). bytes_of o.reader) e ∙ sym (left cs q) in
      let room : (from_new buffer others).reader.buffer ≡ (from_new buffer cs).reader.buffer =
      drive-last (lent new_reader buffer) others ∙ ap (last buffer) out ∙ sym (drive-last (lent new_reader buffer) cs) in
      λ i. received (lent (bytes i) (room i)) (out i)
