-- `hsc::filling::fill` meets its contract: four rows copied side by side are all the numbers.
use Rattle.hsc.proofs.Rows.{filled}
use Rattle.hsc.proofs.filling.fill.Goals as goal

pub returns : goal.returns
returns c =
    filled c.args.c _ _ _ _ _ _ _ _ _ c.copy_over-arg-1.given.0.1
    c.settings_row-staged.ensures c.settings_row-active.ensures c.stored_row-stored.ensures c.shown_row-shown.ensures
    c.copy_over.ensures c.copy_over-2.ensures c.copy_over-3.ensures c.copy_over-4.ensures
