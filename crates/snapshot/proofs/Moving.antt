-- A state in a snapshot's bytes and in the numbers beside them: what the two hold, and the snapshot that they make. Every law but those
-- of the first and the last section is over the list of the numbers' indices, whichever it names.
use mathlib.Core.Path.{◌≡◌, refl, sym, ap, ◌∙◌, subst}
use mathlib.Core.List.{List, [], ◌∷◌}
use Prim.Native.Nat.{ℕ, ◌+◌, ◌^◌, ◌≤◌, ◌<◌}
use native.Mathlib.Omega.{arith}
use lib.Dec.{lit≤}
use lib.IntN.{ℤ}
use lib.ListN.{length, set, length-set}
use lib.Seq.{get_or-set_same}
use mir.Syntax.{w32}
use mir.Val.{SFits}
use Rattle.word.specs.Part.{Bytes, part, put}
use Rattle.word.specs.LittleEndian.{to_bytes, of_bytes, number_at}
use Rattle.word.specs.TwosComplement.{signed, unsigned}
use Rattle.word.specs.Layouts.{total, pack, unpack, Held, none, more, pick, replace}
use Rattle.word.proofs.Part.{length-part, bytes-part, part-whole, part-put-before, put-part, put-whole}
use Rattle.word.proofs.Put.{set-put}
use Rattle.word.proofs.LittleEndian.{number_at-one}
use Rattle.word.proofs.TwosComplement.{signed-unsigned, fits-unsigned}
use Rattle.word.proofs.Layouts.{length-pack, unpack-pack, pack-unpack, held-unpack, numbers_at, unpack-from}
use Rattle.word.proofs.Writes.{then, end, wrote}
use Rattle.word.proofs.Replaced.{replace-pick, held-pick, held-replace, Replaced, put-replaced}
use Rattle.counter.specs.declared.state.Counter.{Counter}
use Rattle.counter.specs.Parts.{with_acc, with_flags, with_levels}
use Rattle.counter.specs.WellFormed.{Good}
use Rattle.snapshot.specs.Widths.{snapshot_size, moving_size, moving_indices, moving_layout, snapshot_layout}
use Rattle.snapshot.specs.Places.{acc_at, flags_at, levels_at, moving_flags_at, moving_levels_at}
use Rattle.snapshot.specs.Snapshots.{row_of, encode, state_of, decode}
use Rattle.snapshot.specs.Split.{split_state, HoldsIfGood}
use Rattle.snapshot.proofs.RoundTrip.{length-encode, bytes-encode, row-state, unpack-encode, decode-encode}

-- ---- read whole and written whole

pub read-whole : (b : List ℕ) {c : Counter} → length b ≡ snapshot_size → c ≡ decode (part b 0 snapshot_size) → c ≡ decode b
read-whole b long e = e ∙ ap decode (part-whole b snapshot_size long)

pub written-whole : (b : List ℕ) {t : List ℕ} (c : Counter) → length b ≡ snapshot_size → t ≡ put b 0 (encode c) → t ≡ encode c
written-whole b c long e = e ∙ put-whole b (encode c) (long ∙ sym (length-encode c))

-- the same state by another name
pub holds-as : {c d : Counter} (b m : List ℕ) → c ≡ d → HoldsIfGood c b m → HoldsIfGood d b m
holds-as b m e h = subst (λ (x : Counter). HoldsIfGood x b m) e h

-- ---- what the two hold

-- numbers beside the snapshot, which their widths hold
split-pack : (b : List ℕ) {vs : List ℕ} → Held moving_layout vs
    → split_state b (pack moving_layout vs) ≡ state_of (replace moving_indices vs (unpack snapshot_layout b))
unfolding split_state
split-pack b h = ap (λ (ws : List ℕ). state_of (replace moving_indices ws (unpack snapshot_layout b))) (unpack-pack h)

-- the snapshot's own numbers
pub split-own : (b : List ℕ) → Bytes b → length b ≡ snapshot_size → split_state b (pack moving_layout (pick moving_indices (unpack snapshot_layout b))) ≡ decode b
unfolding decode total
split-own b h e = split-pack b (held-pick (held-unpack snapshot_layout b h e) moving_indices) ∙ ap state_of (replace-pick moving_indices (unpack snapshot_layout b))

-- a good state's snapshot and its own numbers
pub split-written : (c : Counter) → Good c → split_state (encode c) (pack moving_layout (pick moving_indices (row_of c))) ≡ c
split-written c g =
    ap (λ (r : List ℕ). split_state (encode c) (pack moving_layout (pick moving_indices r))) (sym (unpack-encode c g))
    ∙ split-own (encode c) (bytes-encode c) (length-encode c)
    ∙ decode-encode c g

-- ---- the snapshot that they make

module _ (b m : List ℕ) (bytes : Bytes b) (long : length b ≡ snapshot_size) (known : Bytes m) (short : length m ≡ moving_size) where
  encode-split : encode (split_state b m) ≡ pack snapshot_layout (replace moving_indices (unpack moving_layout m) (unpack snapshot_layout b))
  unfolding encode split_state total
  encode-split =
      let beside : Held moving_layout (unpack moving_layout m) = held-unpack moving_layout m known short in
      ap (pack snapshot_layout) (row-state (held-replace (held-unpack snapshot_layout b bytes long) moving_indices beside))

-- the numbers written one by one over those of a snapshot inside an image
pub replaced-image : (image m : List ℕ) (at : ℕ) {t : List ℕ} → Bytes image → Bytes m → at + snapshot_size ≤ length image → length m ≡ moving_size
    → Replaced snapshot_layout at moving_indices (numbers_at moving_layout m 0 0) image t
    → t ≡ put image at (encode (split_state (part image at snapshot_size) m))
unfolding total unpack
replaced-image image m at bytes known inside short r =
    let b : List ℕ = part image at snapshot_size in
    let long : length b ≡ snapshot_size = length-part image at snapshot_size inside in
    let here : Bytes b = bytes-part image at snapshot_size bytes in
    let before : image ≡ put image at (pack snapshot_layout (unpack snapshot_layout b)) =
    sym (ap (put image at) (pack-unpack snapshot_layout b here long) ∙ put-part image at snapshot_size inside) in
    put-replaced image at (unpack snapshot_layout b) r before (omega (arith, inside)) refl
    ∙ ap (λ (vs : List ℕ). put image at (pack snapshot_layout (replace moving_indices vs (unpack snapshot_layout b)))) (sym (unpack-from moving_layout m 0 0))
    ∙ ap (put image at) (sym (encode-split b m here long known short))

-- ---- ACC, flags and levels

pub split-parts : (b m : List ℕ)
    → split_state b m ≡ with_flags (number_at m moving_flags_at 4) (with_acc (signed w32 (number_at m 0 4)) (with_levels (number_at m moving_levels_at 1) (decode b)))
unfolding split_state decode unpack
split-parts b m = ap (λ (vs : List ℕ). state_of (replace moving_indices vs (unpack snapshot_layout b))) (unpack-from moving_layout m 0 0)

-- what is beside the snapshot counts for nothing once all three are replaced
pub split-with : (acc : ℤ) (flags levels : ℕ) (b m : List ℕ)
    → with_flags flags (with_acc acc (with_levels levels (split_state b m))) ≡ with_flags flags (with_acc acc (with_levels levels (decode b)))
split-with acc flags levels b m = ap (λ (d : Counter). with_flags flags (with_acc acc (with_levels levels d))) (split-parts b m)

-- other numbers beside the same snapshot
pub split-moving : (acc : ℤ) (flags levels : ℕ) (b m : List ℕ) → SFits w32 acc → flags < 2 ^ 32 → levels < 256
    → split_state b (pack moving_layout (unsigned w32 acc ∷ flags ∷ levels ∷ [])) ≡ with_flags flags (with_acc acc (with_levels levels (split_state b m)))
unfolding decode unpack
split-moving acc flags levels b m fits word byte =
    split-pack b (more (fits-unsigned fits).fits (more word (more byte none)))
    ∙ ap (λ (v : ℤ). with_flags flags (with_acc v (with_levels levels (decode b)))) (signed-unsigned fits)
    ∙ sym (split-with acc flags levels b m)

-- other levels beside the same snapshot
pub split-levels : (b m : List ℕ) (l : ℕ) → length m ≡ moving_size → split_state b (set m moving_levels_at l) ≡ with_levels l (split_state b m)
split-levels b m l nine =
    let here : moving_levels_at < length m = omega (arith, nine) in
    let t : List ℕ = set m moving_levels_at l in
    let kept : (k : ℕ) → k + 4 ≤ moving_levels_at → number_at t k 4 ≡ number_at m k 4 =
    λ k h. ap of_bytes
    (ap (λ (s : List ℕ). part s k 4) (set-put m moving_levels_at l here)
    ∙ part-put-before m moving_levels_at (l ∷ []) k 4 h (omega (arith, nine))) in
    let new : number_at t moving_levels_at 1 ≡ l =
    number_at-one t moving_levels_at (omega (arith, nine, length-set m moving_levels_at l)) ∙ get_or-set_same m moving_levels_at l 0 here in
    split-parts b t
    ∙ (λ i. with_flags (kept moving_flags_at (lit≤ tt) i) (with_acc (signed w32 (kept 0 (lit≤ tt) i)) (with_levels (new i) (decode b))))
    ∙ ap (with_levels l) (sym (split-parts b m))

-- written side by side
pub moving-written : (m : List ℕ) {t u w : List ℕ} {n a g f k l : ℕ} → length m ≡ moving_size → n ≡ a → t ≡ put m 0 (to_bytes 4 n)
    → g ≡ f → u ≡ put t moving_flags_at (to_bytes 4 g) → k ≡ l → w ≡ put u moving_levels_at (to_bytes 1 k)
    → w ≡ pack moving_layout (a ∷ f ∷ l ∷ [])
unfolding total
moving-written m {a = a} {f = f} {l = l} nine acc one flags two levels three =
    wrote m acc one (then flags two (then levels three end)) (omega (arith, nine))
    ∙ put-whole m (pack moving_layout (a ∷ f ∷ l ∷ [])) (nine ∙ sym (length-pack moving_layout (a ∷ f ∷ l ∷ []) refl))

-- a snapshot's own numbers, written beside it
pub own-written : (b : List ℕ) {m : List ℕ} → Bytes b → length b ≡ snapshot_size
    → m ≡ pack moving_layout (number_at b acc_at 4 ∷ number_at b flags_at 4 ∷ number_at b levels_at 1 ∷ []) → split_state b m ≡ decode b
own-written b bytes long e =
    ap (split_state b)
    (e
    ∙ ap (λ (r : List ℕ). pack moving_layout (pick moving_indices r)) (sym (unpack-from snapshot_layout b 0 0)))
    ∙ split-own b bytes long
