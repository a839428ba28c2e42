-- `receive::feed_held` meets its contract: what the turns come to, and what is told of it.
use mathlib.Core.Path.{◌≡◌, refl, sym, ap, ◌∙◌, subst}
use mathlib.Core.Bool.{Bool, true, false, cond}
use mathlib.Core.List.{List}
use Prim.Native.Nat.{ℕ}
use Rattle.word.specs.Part.{Bytes, put}
use Rattle.refusal.proofs.Answers.{accepted-changed}
use Rattle.pieces.specs.Reading.{Fed, fed}
use Rattle.pieces.specs.Traces.{verdict, shown}
use Rattle.reader.specs.Formats.{format, ImageReader}
use Rattle.reader.specs.Layout.{bytes_of, header_in, snapshot_in, reader_in}
use Rattle.reader.specs.WellFormed.{WellFormed}
use Rattle.receive.specs.Calls.{fed_by}
use Rattle.reader.proofs.RoundTrip.{reads}
use Rattle.pieces.proofs.Handed.{Runs, feed-runs}
use Rattle.receive.proofs.Shown.{shown-in}
use Rattle.receive.proofs.feed_held.Goals as goal

-- a snapshot that is put down only where it is due
where-due : (t : Bool) (buffer x y : List ℕ) → (t ≡ true → x ≡ y) → cond t (put buffer 0 x) buffer ≡ cond t (put buffer 0 y) buffer
where-due true buffer x y e = ap (put buffer 0) (e refl)
where-due false buffer x y e = refl

-- the bytes that the turns leave are those of the reader that they leave
left-by : (out : List ℕ) (end : Fed ImageReader) (taken : ℕ) (holds : Bool) → Bytes out → WellFormed out → fed (reader_in out) taken holds ≡ end
    → out ≡ bytes_of end.reader
left-by out end taken holds bytes formed call = sym (reads out bytes formed).back ∙ ap (λ (o : Fed ImageReader). bytes_of o.reader) call

pub returns-in_err-refusal-clause-reader : goal.returns-in_err-refusal-clause-reader
returns-in_err-refusal-clause-reader c =
    left-by _ _ _ _ c.refusal.ensures.held.bytes c.refusal.ensures.held.formed c.take_chunk-turn.ensures

pub returns-clause-reader : goal.returns-clause-reader
returns-clause-reader c =
    left-by _ _ _ _ c.refusal.ensures.held.bytes c.refusal.ensures.held.formed c.take_chunk-turn.ensures

pub returns-clause-buffer : goal.returns-clause-buffer
returns-clause-buffer c =
    let b = c.args.reader.now in
    let chunk = c.args.chunk.now in
    let buffer = c.args.buffer.now in
    let end = fed_by b chunk in
    let out = c.take_chunk-turn.new.reader in
    let call = c.take_chunk-turn.ensures in
    let same-reader : reader_in out ≡ end.reader = ap (λ (o : Fed ImageReader). o.reader) call in
    let holds = ap (λ (o : Fed ImageReader). o.holds) call in
    let due-shows : c.take_chunk-turn.result.holds ≡ true → snapshot_in (header_in out) out ≡ shown format end.reader.phase =
    λ t. let runs = feed-runs format (reader_in b) chunk (sym holds ∙ t) in
    shown-in out c.refusal.ensures.held.bytes c.refusal.ensures.held.formed
    (subst (λ (r : ImageReader). Runs format r.phase) (sym same-reader) runs)
    ∙ ap (λ (r : ImageReader). shown format r.phase) same-reader in
    let answered = c.refusal.ensures.answer ∙ ap (λ (o : Fed ImageReader). verdict format o.reader.phase) call in
    accepted-changed _ _ answered c.in_ok-refusal.was _
    (c.tell.ensures.buffer ∙ where-due c.take_chunk-turn.result.holds buffer _ _ due-shows
    ∙ ap (λ (x : Bool). cond x (put buffer 0 (shown format end.reader.phase)) buffer) holds)
