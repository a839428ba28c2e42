-- A sample over a state in its bytes: the test of the event that was read, and what is stored, with a cause raised or without.
use mathlib.Core.Path.{◌≡◌, sym, ap, ◌∙◌}
use mathlib.Core.Bool.{Bool}
use Prim.Native.Nat.{ℕ}
use mir.Syntax.{w32}
use mir.Val.{SFits}
use Rattle.word.specs.TwosComplement.{signed, unsigned}
use Rattle.word.proofs.TwosComplement.{signed-unsigned}
use Rattle.counter.specs.declared.state.Counter.{Counter}
use Rattle.counter.specs.Parts.{with_acc, with_flags, with_levels}
use Rattle.counter.specs.Interrupts.{raise}
use Rattle.counter.specs.Sample.{Sampled, sampled, applied, sample}
use Rattle.counter.specs.Events.{is_sample}
use Rattle.counter.proofs.Raising.{raise-none}
use Rattle.snapshot.specs.declared.event.Event.{Event}

-- the test of an event as it was read is that of the event in its bytes
pub sample-read : {r b : Bool} {x e : Event} → SFits w32 x.value → x ≡ e
    → r ≡ is_sample x.kind x.sub (signed w32 (unsigned w32 x.value)) → r ≡ b → is_sample e.kind e.sub e.value ≡ b
sample-read {x = x} fits same answer t =
    sym (answer ∙ ap (is_sample x.kind x.sub) (signed-unsigned fits) ∙ ap (λ (e : Event). is_sample e.kind e.sub e.value) same) ∙ t

-- ACC, the flags and the levels of what a sample makes of a state
abbrev pub stored : Sampled → ℕ → Counter → Counter
stored r new c = with_flags r.flags (with_acc r.acc (with_levels new c))

module _ (new : ℕ) (c : Counter) (r : Sampled) (e : r ≡ sampled new c) where
  pub sample-raised : raise r.cause (stored r new c) ≡ sample new c
  unfolding sample
  sample-raised = ap (λ (q : Sampled). applied q (with_levels new c)) e

  pub sample-quiet : r.cause ≡ 0 → stored r new c ≡ sample new c
  sample-quiet z = sym (ap (λ (n : ℕ). raise n (stored r new c)) z ∙ raise-none (stored r new c)) ∙ sample-raised
