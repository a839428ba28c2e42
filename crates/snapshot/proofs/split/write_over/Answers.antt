-- `snapshot::split::write_over` meets its contract: each write replaces one number of the snapshot inside the image.
use mathlib.Core.Path.{ap, ◌∙◌}
use Prim.Native.Nat.{ℕ, ◌+◌}
use lib.Dec.{lit<}
use Rattle.word.specs.Part.{put}
use Rattle.word.specs.LittleEndian.{to_bytes}
use Rattle.word.specs.Layouts.{total}
use Rattle.word.proofs.Replaced.{and, as-is}
use Rattle.snapshot.specs.Places.{acc_at, flags_at, levels_at}
use Rattle.snapshot.proofs.Moving.{replaced-image}
use Rattle.snapshot.proofs.split.write_over.Goals as goal

pub returns : goal.returns
unfolding total
returns c =
    let image = c.args.image.now in
    let at = c.args.at in
    replaced-image image c.args.moving.now at (λ i. (c.slice_known-1.given i).fits) (λ i. (c.shared_slice_known-1.given i).fits)
    c.requires.0 c.requires.1
    (and (lit< tt) (c.write.ensures ∙ ap (λ (n : ℕ). put image (at + acc_at) (to_bytes 4 n)) c.read.ensures)
    (and (lit< tt) (c.write-2.ensures ∙ ap (λ (n : ℕ). put c.write.new.bytes (at + flags_at) (to_bytes 4 n)) c.read-2.ensures)
    (and (lit< tt) (c.write-3.ensures ∙ ap (λ (n : ℕ). put c.write-2.new.bytes (at + levels_at) (to_bytes 1 n)) c.read-3.ensures) as-is)))
