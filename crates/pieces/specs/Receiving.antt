-- A receiver that makes calls over chunks: the rest of a chunk again after something was handed out, then the next chunk.
use Rattle.std.specs.Prelude.{cond, List, [], ◌∷◌, ◌++◌, ℕ, zero, suc, length, drop}
use Rattle.word.specs.Part.{Bytes}
use Rattle.pieces.specs.Reading.{Reading, Reader, Fed, feed}

-- the call that a receiver makes over what it keeps, and what it was handed, where the call says so
pub record Calls : Type 1 where
  pub Kept : Type 0
  pub feed : Kept → List ℕ → Fed Kept
  pub shown : Kept → List ℕ

-- those of a reader
abbrev pub calls_of : Reading → Calls
calls_of P = record { Kept = Reader P; feed = feed P; shown = λ r. P.shown r.phase }

-- what a receiver has: what it keeps, and all that it was handed, in order
pub record Received (R : Type 0) : Type 0 where
  pub reader : R
  pub out : List (List ℕ)

abbrev pub received : {R : Type 0} → R → List (List ℕ) → Received R
received r out = record { reader = r; out = out }

-- more, after what was handed before
abbrev pub after : {R : Type 0} → List (List ℕ) → Received R → Received R
after a o = received o.reader (a ++ o.out)

-- the chunks one after the other
unfoldable pub join : List (List ℕ) → List ℕ
join [] = []
join (c ∷ cs) = c ++ join cs

-- chunks of bytes
unfoldable pub AllBytes : List (List ℕ) → Type 0
AllBytes [] = Unit
AllBytes (c ∷ cs) = Bytes c × AllBytes cs

module _ (C : Calls) where
  -- one chunk, its rest again as long as something is handed out; n calls at most
  unfoldable pub drain : ℕ → C.Kept → List ℕ → Received C.Kept
  drain zero r c = received r []
  drain (suc n) r c =
      let o : Fed C.Kept = C.feed r c in
      cond o.holds (after (C.shown o.reader ∷ []) (drain n o.reader (drop o.taken c))) (received o.reader [])

  -- one chunk after the other; a chunk of n bytes takes n + 1 calls at most
  unfoldable pub drive : C.Kept → List (List ℕ) → Received C.Kept
  drive r [] = received r []
  drive r (c ∷ cs) = let o : Received C.Kept = drain (suc (length c)) r c in after o.out (drive o.reader cs)
