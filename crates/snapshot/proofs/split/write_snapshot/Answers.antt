-- `snapshot::split::write_snapshot` meets its contract: the snapshot's bytes are copied, and the numbers beside them go over theirs.
use mathlib.Core.Path.{◌≡◌, sym, ap, ◌∙◌}
use mathlib.Core.List.{List}
use Prim.Native.Nat.{ℕ, ◌+◌, ◌≤◌}
use native.Mathlib.Omega.{arith}
use lib.ListN.{length}
use Rattle.word.specs.Part.{part, put}
use Rattle.word.proofs.Part.{part-put}
use Rattle.word.proofs.Put.{put-again}
use Rattle.snapshot.specs.Widths.{snapshot_size}
use Rattle.snapshot.specs.Snapshots.{encode}
use Rattle.snapshot.specs.Split.{split_state}
use Rattle.snapshot.proofs.RoundTrip.{length-encode}
use Rattle.snapshot.proofs.split.write_snapshot.Goals as goal

written : (image b m : List ℕ) (at : ℕ) {t u : List ℕ} → at + snapshot_size ≤ length image → length b ≡ snapshot_size → t ≡ put image at b
    → u ≡ put t at (encode (split_state (part t at snapshot_size) m)) → u ≡ put image at (encode (split_state b m))
written image b m at {t} {u} inside long one two =
    let room : at ≤ length image = omega (arith, inside) in
    let here : part (put image at b) at snapshot_size ≡ b = ap (part (put image at b) at) (sym long) ∙ part-put image at b room in
    two
    ∙ ap (λ (l : List ℕ). put l at (encode (split_state (part l at snapshot_size) m))) one
    ∙ ap (λ (l : List ℕ). put (put image at b) at (encode (split_state l m))) here
    ∙ put-again image at b (encode (split_state b m)) room (long ∙ sym (length-encode (split_state b m)))

pub returns : goal.returns
returns c =
    let a = c.args in
    written a.image.now a.s.now a.moving.now a.at c.requires.0 c.requires.1 c.copy_over.ensures c.write_over.ensures
