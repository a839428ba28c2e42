-- A layout is a list of widths in bytes; a row of numbers is laid out by it, one number after the other.
use Rattle.std.specs.Prelude.{List, [], ◌∷◌, ◌++◌, ℕ, ◌+◌, ◌^◌, ◌<◌, get_or, take, drop, set}
use Rattle.word.specs.LittleEndian.{to_bytes, of_bytes}

-- how many bytes the layout takes
unfoldable pub total : List ℕ → ℕ
total [] = 0
total (k ∷ ks) = k + total ks

-- how many bytes come before number i
abbrev pub offset : List ℕ → ℕ → ℕ
offset ks i = total (take i ks)

-- the bytes of a row
unfoldable pub pack : List ℕ → List ℕ → List ℕ
pack [] vs = []
pack (k ∷ ks) [] = []
pack (k ∷ ks) (v ∷ vs) = to_bytes k v ++ pack ks vs

-- the row that the bytes hold
unfoldable pub unpack : List ℕ → List ℕ → List ℕ
unpack [] bs = []
unpack (k ∷ ks) bs = of_bytes (take k bs) ∷ unpack ks (drop k bs)

-- a number for each width, which holds it
pub data Held : List ℕ → List ℕ → Type 0 where
  none : Held [] []
  more : {k v : ℕ} {ks vs : List ℕ} → v < 256 ^ k → Held ks vs → Held (k ∷ ks) (v ∷ vs)

-- ---- some numbers of a row, by their indices

-- the numbers at these indices
abbrev pub pick : List ℕ → List ℕ → List ℕ
pick [] r = []
pick (i ∷ is) r = get_or r i 0 ∷ pick is r

-- the row with other numbers at these indices
abbrev pub replace : List ℕ → List ℕ → List ℕ → List ℕ
replace [] vs r = r
replace (i ∷ is) [] r = r
replace (i ∷ is) (v ∷ vs) r = replace is vs (set r i v)
