-- A load is refused with a rule's number exactly when that rule is the first one broken: ER is the number that the definition gives.
use mathlib.Core.Path.{◌≡◌, refl, sym}
use mathlib.Core.Logic.{◌↔◌}
use mathlib.Core.Bool.{Bool, true, false, cond}
use Prim.Native.Nat.{ℕ, ◌+◌}
use borrow.Author.Tests.{eqb-true}
use lib.Dec.{eqb, lit<}
use Rattle.counter.specs.declared.state.Counter.{Counter}
use Rattle.counter.specs.Parts.{flag, LOADED}
use Rattle.counter.specs.Loading.{rules, preset_rules, First, AllPass, first_broken, preset_broken, accepted, rejected, load, preset_accepted, preset_load}
use Rattle.counter.proofs.FirstBroken.{first-exact, pass-exact}

-- ---- the full load

pub load-er : (c : Counter) → (load c).er ≡ first_broken c.staged
unfolding load
load-er c = go (eqb (first_broken c.staged) 0) refl
  where
    go : (b : Bool) → eqb (first_broken c.staged) 0 ≡ b → (cond b (accepted c) (rejected (first_broken c.staged) c)).er ≡ first_broken c.staged
    go true e = sym (eqb-true (first_broken c.staged) 0 e)
    go false e = refl

-- the rule with number 1 + k
pub load-refused : (c : Counter) (k : ℕ) → ((load c).er ≡ 1 + k) ↔ First (rules c.staged) k
unfolding first_broken
load-refused c k = rw (load-er c) (first-exact 1 (rules c.staged) k (lit< tt))

pub load-accepted : (c : Counter) → ((load c).er ≡ 0) ↔ AllPass (rules c.staged)
unfolding first_broken
load-accepted c = rw (load-er c) (pass-exact 1 (rules c.staged) (lit< tt))

-- ---- the preset load

pub preset-er : (c : Counter) → flag c LOADED ≡ true → (preset_load c).er ≡ preset_broken c.staged c.active
unfolding preset_load
preset-er c l = rw l (go (eqb n 0) refl)
  where
    n : ℕ
    n = preset_broken c.staged c.active

    go : (b : Bool) → eqb n 0 ≡ b → (cond b (preset_accepted c) (rejected n c)).er ≡ n
    go true e = sym (eqb-true n 0 e)
    go false e = refl

-- the rule with number 3 + k
pub preset-refused : (c : Counter) (k : ℕ) → flag c LOADED ≡ true → ((preset_load c).er ≡ 3 + k) ↔ First (preset_rules c.staged c.active) k
unfolding preset_broken
preset-refused c k l = rw (preset-er c l) (first-exact 3 (preset_rules c.staged c.active) k (lit< tt))

pub preset-accepted : (c : Counter) → flag c LOADED ≡ true → ((preset_load c).er ≡ 0) ↔ AllPass (preset_rules c.staged c.active)
unfolding preset_broken
preset-accepted c l = rw (preset-er c l) (pass-exact 3 (preset_rules c.staged c.active) (lit< tt))
