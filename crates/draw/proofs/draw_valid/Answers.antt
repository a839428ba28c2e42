-- `draw::draw_valid` meets its contract: what is not refused can be drawn, and the row has as many numbers as there are events.
use mathlib.Core.Path.{sym, ap, ◌∙◌}
use Prim.Native.Nat.{ℕ}
use lib.ListN.{length}
use Rattle.replay.specs.Events.{run}
use Rattle.replay.specs.Counts.{after_each}
use Rattle.image.specs.Editions.{base, acc_of}
use Rattle.image.specs.declared.edition.Edition.TheVariants.{Base}
use Rattle.image.proofs.Laws.{is-base}
use Rattle.draw.proofs.Accepted.{row-count, drawn}
use Rattle.draw.proofs.draw_valid.Goals as goal

pub draw_as-requires-clause-whole : goal.draw_as-requires-clause-whole
draw_as-requires-clause-whole c = rw (is-base c.args.ed) at (drawn _ _ _ _ c.requires).sized

pub draw_as-requires-clause-can_load : goal.draw_as-requires-clause-can_load
draw_as-requires-clause-can_load c = rw (is-base c.args.ed) at (drawn _ _ _ _ c.requires).formed

pub draw_as-requires-clause-one_event_each : goal.draw_as-requires-clause-one_event_each
draw_as-requires-clause-one_event_each c = (drawn _ _ _ _ c.requires).whole

pub returns-clause-snapshot : goal.returns-clause-snapshot
returns-clause-snapshot c =
    let a = c.args in
    let s = base.decode a.snapshot.now in
    let count = sym (row-count a.ed a.snapshot.now a.events.now (length a.row.now) (drawn _ _ _ _ c.requires).whole) in
    rw (is-base a.ed) (c.draw_as.ensures.snapshot ∙ ap (λ (n : ℕ). base.encode (run base s a.events.now 0 n)) count)

pub returns-clause-row : goal.returns-clause-row
returns-clause-row c =
    let a = c.args in
    let s = base.decode a.snapshot.now in
    let count = sym (row-count a.ed a.snapshot.now a.events.now (length a.row.now) (drawn _ _ _ _ c.requires).whole) in
    rw (is-base a.ed) (c.draw_as.ensures.row ∙ ap (after_each base (acc_of Base) s a.events.now 0 0) count)
