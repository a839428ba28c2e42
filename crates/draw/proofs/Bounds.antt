-- A refusal's place fits 32 bits: a place past them stands as the last.
use mathlib.Core.Bool.{not}
use mathlib.Core.List.{List}
use Prim.Native.Nat.{ℕ}
use Rattle.refusal.specs.Refusals.{given, Placed}
use Rattle.refusal.proofs.Answers.{placed-test, placed-told, placed-then}
use Rattle.image.specs.declared.edition.Edition.{Edition}
use Rattle.image.specs.Editions.{system}
use Rattle.image.specs.Rows.{events_in}
use Rattle.image.specs.Verdicts.{events_verdict}
use Rattle.draw.specs.Drawing.{bad_sizes, sizes_verdict, legal_verdict, form_verdict, draw_verdict}

pub draw-placed : (ed : Edition) (snapshot events : List ℕ) (room : ℕ) → Placed (draw_verdict ed snapshot events room)
unfolding draw_verdict sizes_verdict legal_verdict form_verdict
draw-placed ed snapshot events room =
    placed-then (sizes_verdict ed snapshot events room) _ (placed-test (bad_sizes ed snapshot events room) 9 (given tt) (λ _. tt)) λ _.
    placed-then (legal_verdict ed events) _ (placed-told (events_verdict (system ed) 5 events 0 (events_in events))) λ _.
    placed-test (not ((system ed).formed snapshot)) 6 (given tt) (λ _. tt)
