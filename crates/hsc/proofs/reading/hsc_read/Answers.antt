-- `hsc::reading::hsc_read` meets its contract: what is not refused has the right length, and every refusal is at place 0.
use mathlib.Core.Path.{sym, ap, subst, ◌∙◌}
use native.Mathlib.Nat.{le_of_eq}
use Rattle.refusal.specs.Refusals.{Answer, Placed, changed_if}
use Rattle.snapshot.specs.Widths.{snapshot_size}
use Rattle.snapshot.specs.Snapshots.{decode}
use Rattle.hsc.specs.Fields.{fields_of}
use Rattle.hsc.proofs.Done.{ok-passed, err-kept, read-passed, read-placed}
use Rattle.hsc.proofs.Whole.{of-whole}
use Rattle.hsc.proofs.reading.hsc_read.Goals.{then-is_ok, else-is_ok}
use Rattle.hsc.proofs.reading.hsc_read.Goals as goal

pub status_of-requires : goal.status_of-requires
status_of-requires c = subst Placed (sym c.read_verdict-verdict.ensures) (read-placed _)

pub decode-requires : goal.decode-requires
decode-requires c =
    le_of_eq (sym (read-passed _ (ok-passed _ c.read_verdict-verdict.ensures (sym c.is_ok.ensures.value ∙ c.if-is_ok.true))))

pub returns-clause-fields : goal.returns-clause-fields
returns-clause-fields c =
    let s = c.args.snapshot.now in
    let old = c.args.fields.now in
    let answered = c.read_verdict-verdict.ensures in
    elim c.if-is_ok.branch [
      | then-is_ok w ↦
          let passes = ok-passed _ answered (sym c.is_ok.ensures.value ∙ w.if-is_ok.true) in
          let state = w.decode.ensures ∙ of-whole decode s snapshot_size (read-passed _ passes) in
          w.fields-is ∙ w.fill.ensures ∙ ap fields_of state ∙ sym (ap (λ (a : Answer Unit). changed_if a old (fields_of (decode s))) passes)
      | else-is_ok w ↦ w.fields-is ∙ err-kept _ old _ answered (sym c.is_ok.ensures.value ∙ w.if-is_ok.false)
    ]
