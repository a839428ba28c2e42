-- `receive::end_held` meets its contract: what the end leaves of the reader, and what is told of it.
use mathlib.Core.Path.{◌≡◌, sym, ap, ◌∙◌, subst}
use mathlib.Core.List.{List}
use Prim.Native.Nat.{ℕ}
use Rattle.word.specs.Part.{put}
use Rattle.refusal.specs.Refusals.{Answer}
use Rattle.refusal.proofs.Answers.{accepted-answer, accepted-changed}
use Rattle.pieces.specs.Traces.{verdict, shown}
use Rattle.reader.specs.Formats.{format, ImageReader}
use Rattle.reader.specs.Layout.{reader_in}
use Rattle.receive.specs.Calls.{ended_by}
use Rattle.pieces.proofs.Handed.{Runs, ended-runs}
use Rattle.receive.proofs.Shown.{shown-in}
use Rattle.receive.proofs.end_held.Goals as goal

-- what is told of the bytes is the answer to the end
answered : (b out : List ℕ) {a : Answer Unit} → reader_in out ≡ ended_by b → a ≡ verdict format (reader_in out).phase → a ≡ verdict format (ended_by b).phase
answered b out same answer = answer ∙ ap (λ (r : ImageReader). verdict format r.phase) same

pub returns-clause-buffer : goal.returns-clause-buffer
returns-clause-buffer c =
    let b = c.args.reader.now in
    let out = c.finish.new.reader in
    let held = c.refusal.ensures.held in
    let same = c.finish.ensures.reader in
    let told = answered b out same c.refusal.ensures.answer in
    let runs = ended-runs format (reader_in b).phase (accepted-answer _ _ told c.in_ok-refusal.was) in
    let shows =
    shown-in out held.bytes held.formed (subst (λ (q : ImageReader). Runs format q.phase) (sym same) runs)
    ∙ ap (λ (q : ImageReader). shown format q.phase) same in
    accepted-changed _ _ told c.in_ok-refusal.was _ (c.show.ensures ∙ ap (put c.args.buffer.now 0) shows)
