-- `hsc::stepping::step_over` meets its contract: a legal event or not, it keeps a good state good, and the snapshot is made whole again.
use mathlib.Core.Path.{◌≡◌, sym, ap, ◌∙◌, subst}
use mathlib.Core.List.{List}
use Prim.Native.Nat.{ℕ}
use lib.ListN.{length}
use Rattle.word.specs.Part.{part, put}
use Rattle.word.proofs.Part.{part-whole, put-whole, bytes-part}
use Rattle.counter.specs.WellFormed.{Good}
use Rattle.snapshot.specs.Widths.{snapshot_size, event_size}
use Rattle.snapshot.specs.Snapshots.{encode}
use Rattle.snapshot.specs.EventBytes.{step_event}
use Rattle.snapshot.specs.Split.{split_state}
use Rattle.snapshot.proofs.RoundTrip.{length-encode, good-decode}
use Rattle.image.specs.Laws.{event-good}
use Rattle.hsc.proofs.stepping.step_over.Goals as goal

-- the moving numbers over a buffer that is the snapshot
whole-over : (b m : List ℕ) {t : List ℕ} → length b ≡ snapshot_size → t ≡ put b 0 (encode (split_state (part b 0 snapshot_size) m)) → t ≡ encode (split_state b m)
whole-over b m long e =
    e
    ∙ ap (λ (l : List ℕ). put b 0 (encode (split_state l m))) (part-whole b snapshot_size long)
    ∙ put-whole b (encode (split_state b m)) (long ∙ sym (length-encode (split_state b m)))

pub returns : goal.returns
returns c =
    let event = c.args.event.now in
    let whole = part-whole event event_size c.requires.event_whole in
    let long = c.step_over.auto.s ∙ c.requires.snapshot_formed.0 in
    let loaded = good-decode c.args.snapshot.now (λ i. (c.slice_known-1.given i).fits) c.requires.snapshot_formed.0 c.requires.snapshot_formed.1 in
    let bytes = bytes-part event 0 event_size (λ i. (c.type_inv.event i).fits) in
    let state = split_state c.args.snapshot.now c.load_moving.new.moving in
    let good = event-good state (part event 0 event_size) (subst Good (sym c.load_moving.ensures) loaded) (ap length whole ∙ c.requires.event_whole) bytes in
    whole-over _ _ long c.write_over.ensures
    ∙ ap encode (c.step_over.ensures good ∙ ap (λ (e : List ℕ). step_event e state) whole ∙ ap (step_event event) c.load_moving.ensures)
