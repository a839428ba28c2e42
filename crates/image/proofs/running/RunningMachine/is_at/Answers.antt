-- `is_at` of a running counter meets the contract of a machine: the bytes that are compared are the state's snapshot.
use mathlib.Core.Path.{◌≡◌, sym, ap, ◌∙◌}
use mathlib.Core.List.{List}
use Prim.Native.Nat.{ℕ}
use lib.ListN.{length}
use Rattle.word.specs.Part.{part}
use Rattle.word.specs.Same.{same_bytes}
use Rattle.word.proofs.Part.{part-whole, put-whole}
use Rattle.counter.specs.declared.state.Counter.{Counter}
use Rattle.snapshot.specs.Widths.{snapshot_size}
use Rattle.snapshot.specs.Snapshots.{encode}
use Rattle.snapshot.specs.Split.{split_state}
use Rattle.snapshot.proofs.RoundTrip.{length-encode}
use Rattle.image.proofs.running.RunningMachine.is_at.Goals as goal

pub returns : goal.returns
returns c =
    let inside = c.self.inside in
    let long : length inside.snapshot ≡ snapshot_size = c.self.told.0 in
    let state : Counter = split_state (part inside.snapshot 0 snapshot_size) inside.moving in
    let written = c.write_over.ensures ∙ put-whole inside.snapshot (encode state) (long ∙ sym (length-encode state)) in
    let same = ap (λ (l : List ℕ). encode (split_state l inside.moving)) (part-whole inside.snapshot snapshot_size long) in
    c.same_at.ensures ∙ ap (same_bytes (part c.args.image.now c.args.at snapshot_size)) (written ∙ same ∙ ap encode c.self.view_is)
