-- `show_next` meets its contract: a number that is no cause's shows none.
use mathlib.Core.Path.{sym, ap, ◌∙◌}
use Prim.Native.Nat.{ℕ}
use Rattle.counter.specs.Parts.{with_flags}
use Rattle.counter.specs.Interrupts.{finished_flags}
use Rattle.counter.proofs.Raising.{started-none}
use Rattle.counter.proofs.state.Counter.show_next.Goals as goal

pub returns-in-Err : goal.returns-in-Err
unfolding finished_flags
returns-in-Err c =
    let d = c.args.self.now in
    rw c.in-Some.is (c.quiet.ensures ∙ ap (λ (w : ℕ). with_flags w d) (sym (started-none c.in-Some.number d.flags c.in-Err.ensures.1)))
