-- Rows of causes and of samples. Document 01 has neither: the laws of document 02's request 7 speak of them.
use Rattle.std.specs.Prelude.{◌≡◌, Bool, true, false, not, ◌&&◌, ◌||◌, List, [], ◌∷◌, ℕ, eqb, ltb}
use Rattle.std.specs.Int.Signed.{le_z}
use Rattle.counter.specs.declared.desk.Desk.{Desk}
use Rattle.counter.specs.declared.state.Counter.{Counter}
use Rattle.counter.specs.Sample.{Up, Down}
use Rattle.counter.specs.Desk.{first, second, waits}
use Rattle.counter.specs.Interrupts.{enabled, raise}
use Rattle.counter.specs.Sample.{count, sampled, sample}

-- ---- causes

-- none, or one of two
abbrev pub among : ℕ → ℕ → ℕ → Bool
among a b cause = eqb cause 0 || eqb cause a || eqb cause b

-- a cause that comes is lost: one runs, two wait, and it is neither of those two
abbrev pub loses : ℕ → Desk → Bool
loses cause d = not (eqb d.running 0) && not (ltb d.queued 2) && not (waits cause (first d) (second d))

-- raised one after another
unfoldable pub raise_all : List ℕ → Counter → Counter
raise_all [] c = c
raise_all (cause ∷ row) c = raise_all row (raise cause c)

-- whether one of them is lost; one that does not become an interrupt is not
unfoldable pub lost_in : List ℕ → Counter → Bool
lost_in [] c = false
lost_in (cause ∷ row) c = enabled c.flags cause && loses cause c.desk || lost_in row (raise cause c)

-- ---- samples

-- taken one after another
unfoldable pub sample_all : List ℕ → Counter → Counter
sample_all [] c = c
sample_all (new ∷ row) c = sample_all row (sample new c)

-- each is so, in the state that it finds
unfoldable pub Along : (ℕ → Counter → Type 0) → List ℕ → Counter → Type 0
Along P [] c = Unit
Along P (new ∷ row) c = P new c × Along P row (sample new c)

-- it raises none, or one of two causes
abbrev pub Raises : ℕ → ℕ → ℕ → Counter → Type 0
Raises a b new c = among a b (sampled new c).cause ≡ true

-- it does not count down; it does not count up
abbrev pub NotDown : ℕ → Counter → Type 0
NotDown new c = count new c ≡ Down → ⊥

abbrev pub NotUp : ℕ → Counter → Type 0
NotUp new c = count new c ≡ Up → ⊥

-- a count stays between the limits: up from below OVF, down from above UNF
pub record Between (new : ℕ) (c : Counter) : Type 0 where
  pub up : count new c ≡ Up → le_z c.active.ovf c.acc ≡ false
  pub down : count new c ≡ Down → le_z c.acc c.active.unf ≡ false
