-- `snapshot::split::raise_over` meets its contract: the state is read whole and written whole.
use mathlib.Core.Path.{ap, ◌∙◌}
use Rattle.accumulator.specs.Causes.{number}
use Rattle.counter.specs.Interrupts.{raise}
use Rattle.snapshot.specs.Split.{with_moving}
use Rattle.snapshot.proofs.Moving.{holds-as, read-whole}
use Rattle.snapshot.proofs.split.raise_over.Goals as goal

pub returns : goal.returns
returns c =
    let a = c.args in
    let moved = c.store.ensures ∙ ap (with_moving a.next) (read-whole a.s.now c.requires.0 c.decode-c.ensures) in
    holds-as c.write_state.new.s c.write_state.new.moving (c.raise.ensures ∙ ap (raise (number a.cause)) moved) c.write_state.ensures
