-- `report::office::office_line` meets its contract: the line is that of what replay answered; a replayed image keeps its header, and the lent
-- bytes hold the final state.
use mathlib.Core.Path.{◌≡◌, ap, ap₂, ◌∙◌}
use mathlib.Core.List.{List}
use Prim.Native.Nat.{ℕ, ◌+◌, ◌≤◌}
use native.Mathlib.Omega.{arith}
use lib.ListN.{length}
use Rattle.word.specs.Part.{Bytes, part}
use Rattle.word.specs.LittleEndian.{number_at}
use Rattle.snapshot.specs.Widths.{snapshot_size}
use Rattle.snapshot.specs.Snapshots.{decode}
use Rattle.refusal.specs.Refusals.{Answer, given, ◌and_then◌}
use Rattle.image.specs.Header.{header_size, event_count, snapshot_count}
use Rattle.image.specs.Verdicts.{replay_verdict, ValidTrace}
use Rattle.image_replay.specs.Replays.{final_state}
use Rattle.refusal.proofs.Answers.{accepted-answer, accepted-then}
use Rattle.image.proofs.Accepted.{trace-passed}
use Rattle.image_replay.proofs.Theorem.{replay-length, replay-number, final-decoded, final-length}
use Rattle.counter.specs.declared.state.Counter.{Counter}
use Rattle.report.specs.Office.{line_of}
use Rattle.report.proofs.office.office_line.Goals as goal

pub accepted_line-requires : goal.accepted_line-requires
accepted_line-requires c =
    let image : List ℕ =
    c.args.image.now in
    let bytes : Bytes image =
    λ i. (c.slice_known-1.given i).fits in
    let valid : ValidTrace image =
    accepted-answer c.replay.result (replay_verdict image) c.replay.ensures.answer c.in-Ok.is in
    let long : header_size ≤ length c.replay.new.image =
    omega (
      arith,
      ap length c.replay.ensures.image,
      replay-length image bytes valid,
      (trace-passed image valid).header.long,
    ) in
    let last : List ℕ =
    c.replay.new.last in
    let whole : length last ≡ snapshot_size =
    ap length c.replay.ensures.last ∙ final-length image bytes valid _ (omega arith) in
    (long, omega (arith, whole))

pub returns-in-Ok : goal.returns-in-Ok
returns-in-Ok c =
    let last : List ℕ =
    c.replay.new.last in
    let image : List ℕ =
    c.args.image.now in
    let bytes : Bytes image =
    λ i. (c.slice_known-1.given i).fits in
    let valid : ValidTrace image =
    accepted-answer c.replay.result (replay_verdict image) c.replay.ensures.answer c.in-Ok.is in
    let kept : (at : ℕ) → at + 4 ≤ header_size → number_at c.replay.new.image at 4 ≡ number_at image at 4 =
    λ at h. ap (λ (l : List ℕ). number_at l at 4) c.replay.ensures.image ∙ replay-number image bytes valid at h in
    let line : Answer Counter → List ℕ =
    λ x. line_of (event_count image) (snapshot_count image) x in
    let answered : Answer Counter =
    replay_verdict image and_then given (final_state image) in
    let given-answered : given (decode (part last 0 snapshot_size)) ≡ answered =
    let state = ap (λ (l : List ℕ). decode (part l 0 snapshot_size)) c.replay.ensures.last ∙ final-decoded image bytes valid _ in
    accepted-then c.replay.result (replay_verdict image) c.replay.ensures.answer c.in-Ok.is (ap given state) in
    let state = given (decode (part last 0 snapshot_size)) in
    let counts = ap₂ (λ (a b : ℕ). line_of a b state) (kept 0 (omega arith)) (kept 8 (omega arith)) in
    c.accepted_line.ensures ∙ counts ∙ ap line given-answered
