-- A snapshot is well formed exactly where the state that it holds is: the two have the same parts, and the number of waiting causes is
-- read from the two that wait.
use mathlib.Core.Path.{◌≡◌, refl, sym, ap, ◌∙◌}
use mathlib.Core.Bool.{Bool, true, false, ◌&&◌, and-true}
use mathlib.Core.List.{List}
use Prim.Native.Nat.{ℕ, ◌≤◌}
use borrow.Author.Tests.{eq-eqb}
use lib.Dec.{eqb}
use Rattle.word.specs.Masks.{bit}
use Rattle.counter.specs.declared.state.Counter.{Counter}
use Rattle.counter.specs.Desk.{first, second}
use Rattle.counter.specs.WellFormed.{well_formed}
use Rattle.counter.proofs.Masked.{mask-formed}
use Rattle.counter.proofs.Merging.{equal-formed}
use Rattle.snapshot.specs.Snapshots.{decode, state_at}
use Rattle.snapshot.specs.FormedBytes.{formed_at, formed}
use Rattle.snapshot.proofs.Offsets.{decode-places}

pub formed-decode : (b : List ℕ) → formed b ≡ well_formed (decode b)
unfolding formed well_formed
formed-decode b =
    let c : Counter = state_at b 0 in
    sym (ap well_formed (decode-places b) ∙ ap (λ (t : Bool). formed_at b 0 && t) (eq-eqb c.desk.queued c.desk.queued refl) ∙ and-true (formed_at b 0))

-- one whose active mask has a bit that is no output is not
pub formed-mask : (b : List ℕ) (n : ℕ) → 12 ≤ n → bit (decode b).active.omb n ≡ true → formed b ≡ false
formed-mask b n l h = formed-decode b ∙ mask-formed (decode b) n l h

-- one in which two equal causes wait is not
pub formed-equal : (b : List ℕ) → eqb (second (decode b).desk) 0 ≡ false → first (decode b).desk ≡ second (decode b).desk → formed b ≡ false
formed-equal b two same = formed-decode b ∙ equal-formed (decode b) two same
