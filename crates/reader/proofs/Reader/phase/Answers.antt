-- `Reader::phase` meets its contract: by the two numbers, which tell a refusal or none, and by the bytes taken.
use mathlib.Core.Path.{◌≡◌, sym, ap₂, ◌∙◌, subst}
use mathlib.Core.Bool.{false}
use mathlib.Core.List.{List}
use Prim.Native.Nat.{ℕ}
use native.Mathlib.Omega.{arith}
use Rattle.reader.specs.Layout.{number_in, place_in}
use Rattle.reader.specs.WellFormed.{fault, Held}
use Rattle.reader.specs.Phases.{InHeader, InEvents, PastEvents}
use Rattle.reader.proofs.Refusals.{none-told}
use Rattle.reader.proofs.Reader.phase.Goals as goal

-- no refusal is remembered, by the numbers that the code reads
clear : (b : List ℕ) (n p : ℕ) → Held b → n ≡ number_in b → p ≡ place_in b → fault n p ≡ false → number_in b ≡ 0
clear b n p held e q none = none-told b held.bytes held.formed (sym (ap₂ fault e q) ∙ none)

pub returns-then-taken-lt-SIZE : goal.returns-then-taken-lt-SIZE
returns-then-taken-lt-SIZE c =
    let held = c.self.invariant in
    subst (λ (b : List ℕ). InHeader b c.number-taken.result) c.self.view_is record {
      held = held;
      clear = clear _ _ _ held c.number.ensures.0 c.number-2.ensures.0 c.in_default.ensures;
      taken = c.number-taken.ensures.0;
      short = c.if-taken-lt-SIZE.true;
    }

pub returns-then-taken-events_end : goal.returns-then-taken-events_end
returns-then-taken-events_end c =
    let held = c.self.invariant in
    subst (λ (b : List ℕ). InEvents b c.number-taken.result) c.self.view_is record {
      held = held;
      clear = clear _ _ _ held c.number.ensures.0 c.number-2.ensures.0 c.in_default.ensures;
      taken = c.number-taken.ensures.0;
      past = omega (arith, c.if-taken-lt-SIZE.false);
      more = omega (arith, c.events_end.ensures, c.if-taken-events_end.true);
    }

pub returns-else-taken-events_end : goal.returns-else-taken-events_end
returns-else-taken-events_end c =
    let held = c.self.invariant in
    subst (λ (b : List ℕ). PastEvents b c.number-taken.result) c.self.view_is record {
      held = held;
      clear = clear _ _ _ held c.number.ensures.0 c.number-2.ensures.0 c.in_default.ensures;
      taken = c.number-taken.ensures.0;
      past = omega (arith, c.if-taken-lt-SIZE.false);
      all = omega (arith, c.events_end.ensures, c.if-taken-events_end.false);
    }
