-- A receiver's calls over any chunks come to the same as the bytes one by one; and two kinds of calls that agree call by call agree over
-- any chunks.
use mathlib.Core.Path.{◌≡◌, refl, sym, ap, ap₂, ◌∙◌}
use mathlib.Core.Bool.{Bool, true, false, cond, false≢true}
use mathlib.Core.List.{List, [], ◌∷◌, ◌++◌}
use Prim.Native.Nat.{ℕ, zero, suc, ◌<◌, ◌≤◌}
use native.Mathlib.Nat.{le_of_eq}
use native.Mathlib.Numerals.{one-add}
use native.Mathlib.Omega.{arith}
use lib.Dec.{lit<}
use lib.ListN.{length, drop, length-drop, drop_of_length-le}
use lib.Seq.{take-append_seam, drop_at}
use Rattle.word.specs.Part.{Bytes}
use Rattle.word.proofs.Part.{bytes-take, bytes-drop, bytes-append}
use Rattle.pieces.specs.Reading.{Reading, Reader, Fed, fed, from, push, due, pushes, handed, feed}
use Rattle.pieces.specs.Receiving.{Calls, calls_of, Received, received, after, join, AllBytes, drain, drive}
use Rattle.pieces.proofs.Folds.{pushes-append, handed-append}

-- ---- one call

-- what a call is, in terms of single bytes
pub record Told (P : Reading) (r : Reader P) (c : List ℕ) (o : Fed (Reader P)) : Type 0 where
  pub within : o.taken ≤ length c
  pub pushed : pushes P r c ≡ pushes P o.reader (drop o.taken c)
  pub some : o.holds ≡ true → 0 < o.taken
  pub out : handed P r c ≡ cond o.holds (P.shown o.reader.phase ∷ handed P o.reader (drop o.taken c)) []
  pub used : o.holds ≡ false → o.taken ≡ length c

-- after a call over c, the n calls that may follow it
abbrev onward : (C : Calls) → ℕ → List ℕ → Fed C.Kept → Bool → Received C.Kept
onward C n c o t = cond t (after (C.shown o.reader ∷ []) (drain C n o.reader (drop o.taken c))) (received o.reader [])

module _ (P : Reading) where
  told-next : (r : Reader P) (x : ℕ) (xs : List ℕ) (t : Bool) → due P r x ≡ t → Told P (push P r x) xs (feed P (push P r x) xs)
      → Told P r (x ∷ xs) (cond t (fed (push P r x) 1 true) (from 1 (feed P (push P r x) xs)))
  unfolding pushes handed
  told-next r x xs true e h =
      record { within = omega arith; pushed = refl; some = λ _. omega arith; out = rw e; used = λ q. absurd (false≢true (sym q)) }
  told-next r x xs false e h =
      record {
        within = omega (arith, h.within);
        pushed = rw one-add h.pushed;
        some = λ q. omega arith;
        out = rw (e, one-add) h.out;
        used = λ q. omega (arith, h.used q);
      }

  pub feed-told : (r : Reader P) (c : List ℕ) → Told P r c (feed P r c)
  unfolding feed pushes handed
  feed-told r [] = record { within = omega arith; pushed = refl; some = λ q. absurd (false≢true q); out = refl; used = λ q. refl }
  feed-told r (x ∷ xs) = told-next r x xs (due P r x) refl (feed-told (push P r x) xs)

  -- ---- one chunk

  -- all calls over a chunk come to its bytes one by one
  abbrev Drains : ℕ → Type 0
  Drains n = (r : Reader P) (c : List ℕ) → length c < n → drain (calls_of P) n r c ≡ received (pushes P r c) (handed P r c)

  drain-step : (n : ℕ) → Drains n → (r : Reader P) (c : List ℕ) (o : Fed (Reader P)) → Told P r c o → length c < suc n → (t : Bool) → o.holds ≡ t
      → onward (calls_of P) n c o t ≡ received (pushes P r c) (handed P r c)
  unfolding pushes
  drain-step n rest r c o h l true e =
      let some : 0 < o.taken = h.some e in
      let less : length (drop o.taken c) < n = simp length-drop (omega (arith, h.within)) in
      let out : handed P r c ≡ P.shown o.reader.phase ∷ handed P o.reader (drop o.taken c) = rw e at h.out in
      ap (after (P.shown o.reader.phase ∷ [])) (rest o.reader (drop o.taken c) less) ∙ ap₂ received (sym h.pushed) (sym out)
  drain-step n rest r c o h l false e =
      let none : drop o.taken c ≡ [] = drop_of_length-le c (le_of_eq (sym (h.used e))) in
      let pushed : pushes P r c ≡ o.reader = rw none at h.pushed in
      let out : handed P r c ≡ [] = rw e at h.out in
      ap₂ received (sym pushed) (sym out)

  drains : (n : ℕ) → Drains n
  unfolding drain
  drains zero r c h = absurd (omega arith)
  drains (suc n) r c h = drain-step n (drains n) r c (feed P r c) (feed-told r c) h (feed P r c).holds refl

  -- ---- many chunks

  -- every cutting: the reader and what was handed out are those of the joined bytes
  pub drive-join : (r : Reader P) (cs : List (List ℕ)) → drive (calls_of P) r cs ≡ received (pushes P r (join cs)) (handed P r (join cs))
  unfolding drive join pushes handed
  drive-join r [] = refl
  drive-join r (c ∷ cs) =
      ap (λ (o : Received (Reader P)). after o.out (drive (calls_of P) o.reader cs)) (drains (suc (length c)) r c (omega arith))
      ∙ ap (after (handed P r c)) (drive-join (pushes P r c) cs)
      ∙ ap₂ received (sym (pushes-append P r c (join cs))) (sym (handed-append P r c (join cs)))

  -- two cuttings never differ
  pub cuttings : (r : Reader P) (a b : List (List ℕ)) → join a ≡ join b → drive (calls_of P) r a ≡ drive (calls_of P) r b
  cuttings r a b e = drive-join r a ∙ ap (λ (l : List ℕ). received (pushes P r l) (handed P r l)) e ∙ sym (drive-join r b)

-- ---- bytes

pub join-bytes : (cs : List (List ℕ)) → AllBytes cs → Bytes (join cs)
unfolding join AllBytes
join-bytes [] b = λ i. lit< tt
join-bytes (c ∷ cs) b = bytes-append c (join cs) b.0 (join-bytes cs b.1)

pub chunks-bytes : (cs : List (List ℕ)) → Bytes (join cs) → AllBytes cs
unfolding join AllBytes
chunks-bytes [] b = tt
chunks-bytes (c ∷ cs) b =
    let first : Bytes c = rw (take-append_seam c (join cs)) at (bytes-take (length c) (c ++ join cs) b) in
    let rest : Bytes (join cs) = rw (drop_at c (join cs) (length c) refl) at (bytes-drop (length c) (c ++ join cs) b) in
    (first, chunks-bytes cs rest)

-- ---- two kinds of calls

module _ (C D : Calls) (view : D.Kept → C.Kept) (Inv : D.Kept → Type 0) where
  -- A call over what D keeps is the call over its view: the same is left, and, where something is handed out, the same was taken and shown.
  pub record Alike (d : D.Kept) (c : List ℕ) : Type 0 where
    pub inv : Inv (D.feed d c).reader
    pub seen : view (D.feed d c).reader ≡ (C.feed (view d) c).reader
    pub holds : (D.feed d c).holds ≡ (C.feed (view d) c).holds
    pub taken : (D.feed d c).holds ≡ true → (D.feed d c).taken ≡ (C.feed (view d) c).taken
    pub shown : (D.feed d c).holds ≡ true → D.shown (D.feed d c).reader ≡ C.shown (C.feed (view d) c).reader

  -- what two receivers have
  pub record DrivenAlike (o : Received D.Kept) (q : Received C.Kept) : Type 0 where
    pub inv : Inv o.reader
    pub seen : view o.reader ≡ q.reader
    pub out : o.out ≡ q.out

  module _ (alike : (d : D.Kept) (c : List ℕ) → Inv d → Bytes c → Alike d c) where
    same-step : (n : ℕ) (d : D.Kept) (c : List ℕ) → Alike d c → (t : Bool) → (D.feed d c).holds ≡ t
        → DrivenAlike (drain D n (D.feed d c).reader (drop (D.feed d c).taken c)) (drain C n (view (D.feed d c).reader) (drop (D.feed d c).taken c))
        → DrivenAlike (onward D n c (D.feed d c) t) (onward C n c (C.feed (view d) c) t)
    same-step n d c a true e rest =
        let o : Fed D.Kept = D.feed d c in
        let q : Fed C.Kept = C.feed (view d) c in
        let same : drain C n (view o.reader) (drop o.taken c) ≡ drain C n q.reader (drop q.taken c) =
        ap₂ (λ (r : C.Kept) (k : ℕ). drain C n r (drop k c)) a.seen (a.taken e) in
        record {
          inv = rest.inv;
          seen = rest.seen ∙ ap (λ (x : Received C.Kept). x.reader) same;
          out = ap₂ ◌∷◌ (a.shown e) (rest.out ∙ ap (λ (x : Received C.Kept). x.out) same);
        }
    same-step n d c a false e rest = record { inv = a.inv; seen = a.seen; out = refl }

    drain-alike : (n : ℕ) (d : D.Kept) (c : List ℕ) → Inv d → Bytes c → DrivenAlike (drain D n d c) (drain C n (view d) c)
    unfolding drain
    drain-alike zero d c i b = record { inv = i; seen = refl; out = refl }
    drain-alike (suc n) d c i b =
        let a : Alike d c = alike d c i b in
        let o : Fed D.Kept = D.feed d c in
        rw (← a.holds) (same-step n d c a o.holds refl (drain-alike n o.reader (drop o.taken c) a.inv (bytes-drop o.taken c b)))

    -- calls that are alike are so over any chunks
    pub drive-alike : (d : D.Kept) (cs : List (List ℕ)) → Inv d → AllBytes cs → DrivenAlike (drive D d cs) (drive C (view d) cs)
    unfolding drive AllBytes
    drive-alike d [] i b = record { inv = i; seen = refl; out = refl }
    drive-alike d (c ∷ cs) i b =
        let o : Received D.Kept = drain D (suc (length c)) d c in
        let q : Received C.Kept = drain C (suc (length c)) (view d) c in
        let a : DrivenAlike o q = drain-alike (suc (length c)) d c i b.0 in
        let rest : DrivenAlike (drive D o.reader cs) (drive C q.reader cs) = rw a.seen at (drive-alike o.reader cs a.inv b.1) in
        record { inv = rest.inv; seen = rest.seen; out = ap₂ ◌++◌ a.out rest.out }
