-- What an accepted and a rejected load leave, part by part: the flags go by the laws of setting and clearing one bit. Enter run loads as SP
-- does.
use mathlib.Core.Path.{◌≡◌, refl, sym, ap, ◌∙◌, subst}
use mathlib.Core.Bool.{Bool, true, false, cond}
use Prim.Native.Nat.{ℕ, ◌+◌, ◌<◌}
use native.Mathlib.Omega.{arith}
use borrow.Author.Tests.{ne_eqb}
use lib.Dec.{eqb, lit<}
use Rattle.word.specs.Masks.{bit, set_bit, clear_bit}
use Rattle.word.proofs.Masks.{bit-set_bit, bit-clear_bit}
use Rattle.counter.specs.declared.state.Settings.{Settings}
use Rattle.counter.specs.declared.state.Counter.{Counter}
use Rattle.counter.specs.Parts.{flag, on, AS, ED, FE, LOADED, with_active, with_er, with_flags}
use Rattle.counter.specs.Loading.{first_broken, rules, preset_rules, First, AllPass, Untouched, Accepted, Rejected, accepted, rejected, load, preset_broken}
use Rattle.counter.specs.Loading.{with_presets, preset_accepted, preset_load}
use Rattle.counter.specs.Events.{emptied, auto_start, enter_run}
use Rattle.counter.proofs.Exact.{load-er, load-refused, load-accepted, preset-er, preset-refused, preset-accepted}

-- setting or clearing flag n leaves flag m
pub set-other : (w n m : ℕ) → (m ≡ n → ⊥) → bit (set_bit w n) m ≡ bit w m
set-other w n m h = bit-set_bit w n m ∙ ap (λ (b : Bool). cond b true (bit w m)) (ne_eqb n m (λ e. h (sym e)))

pub clear-other : (w n m : ℕ) → n < 32 → m < 32 → (m ≡ n → ⊥) → bit (clear_bit 32 w n) m ≡ bit w m
clear-other w n m p q h = bit-clear_bit 32 w n m p q ∙ ap (λ (b : Bool). cond b false (bit w m)) (ne_eqb n m (λ e. h (sym e)))

-- other active settings, another ER, and flags that are the same but for ED and LOADED
untouched : (c : Counter) (a : Settings) (n w : ℕ) → ((m : ℕ) → m < 32 → (m ≡ ED → ⊥) → (m ≡ LOADED → ⊥) → bit w m ≡ flag c m)
    → Untouched c (with_flags w (with_er n (with_active a c)))
untouched c a n w h = record { staged = refl; acc = refl; out = refl; levels = refl; desk = refl; flags = h }

pub accepted-leaves : (c : Counter) → Accepted c c.staged (accepted c)
accepted-leaves c =
    let v : ℕ = set_bit c.flags LOADED in
    record {
      active = refl;
      loaded = bit-clear_bit 32 v ED LOADED (lit< tt) (lit< tt) ∙ bit-set_bit c.flags LOADED LOADED;
      ed = bit-clear_bit 32 v ED ED (lit< tt) (lit< tt);
      er = refl;
      rest = untouched c c.staged 0 (clear_bit 32 v ED) (λ n l e o. clear-other v ED n (lit< tt) l e ∙ set-other c.flags LOADED n o);
    }

pub rejected-leaves : (c : Counter) (n : ℕ) → Rejected c n (rejected n c)
rejected-leaves c n =
    record {
      active = refl;
      loaded = bit-set_bit c.flags ED LOADED;
      ed = bit-set_bit c.flags ED ED;
      er = refl;
      rest = untouched c c.active n (set_bit c.flags ED) (λ m l e o. set-other c.flags ED m e);
    }

pub presets-leave : (c : Counter) → flag c LOADED ≡ true → Accepted c (with_presets c.staged c.active) (preset_accepted c)
presets-leave c l =
    record {
      active = refl;
      loaded = bit-clear_bit 32 c.flags ED LOADED (lit< tt) (lit< tt) ∙ l;
      ed = bit-clear_bit 32 c.flags ED ED (lit< tt) (lit< tt);
      er = refl;
      rest = untouched c (with_presets c.staged c.active) 0 (clear_bit 32 c.flags ED) (λ n b e o. clear-other c.flags ED n (lit< tt) b e);
    }

-- ---- by the rules

module _ (c : Counter) where
  pub load-accepts : AllPass (rules c.staged) → Accepted c c.staged (load c)
  unfolding load
  load-accepts h =
      let z : first_broken c.staged ≡ 0 = sym (load-er c) ∙ (load-accepted c).1 h in
      subst (Accepted c c.staged) (sym (rw z)) (accepted-leaves c)

  pub load-rejects : (k : ℕ) → First (rules c.staged) k → Rejected c (1 + k) (load c)
  unfolding load
  load-rejects k f =
      let n : first_broken c.staged ≡ 1 + k = sym (load-er c) ∙ (load-refused c k).1 f in
      subst (Rejected c (1 + k)) (sym (rw (n, ne_eqb (1 + k) 0 (omega arith)))) (rejected-leaves c (1 + k))

  module _ (l : flag c LOADED ≡ true) where
    pub preset-accepts : AllPass (preset_rules c.staged c.active) → Accepted c (with_presets c.staged c.active) (preset_load c)
    unfolding preset_load
    preset-accepts h =
        let z : preset_broken c.staged c.active ≡ 0 = sym (preset-er c l) ∙ (preset-accepted c l).1 h in
        subst (Accepted c (with_presets c.staged c.active)) (sym (rw (l, z))) (presets-leave c l)

    pub preset-rejects : (k : ℕ) → First (preset_rules c.staged c.active) k → Rejected c (3 + k) (preset_load c)
    unfolding preset_load
    preset-rejects k f =
        let n : preset_broken c.staged c.active ≡ 3 + k = sym (preset-er c l) ∙ (preset-refused c k l).1 f in
        subst (Rejected c (3 + k)) (sym (rw (l, n, ne_eqb (3 + k) 0 (omega arith)))) (rejected-leaves c (3 + k))

  -- nothing loaded: no effect
  pub preset-idle : flag c LOADED ≡ false → preset_load c ≡ c
  unfolding preset_load
  preset-idle l = rw l

-- ---- enter run

start-loads : (c : Counter) → auto_start c ≡ cond (eqb (load c).er 0) (on FE (load c)) (load c)
unfolding auto_start load
start-loads c = go (eqb broken 0) ∙ ap (λ (n : ℕ). cond (eqb n 0) (on FE (load c)) (load c)) (sym (load-er c))
  where
    broken : ℕ
    broken = first_broken c.staged

    left : Bool → Counter
    left accepts = cond accepts (accepted c) (rejected broken c)

    go : (b : Bool) → cond b (on FE (accepted c)) (rejected broken c) ≡ cond b (on FE (left b)) (left b)
    go true = refl
    go false = refl

-- with AS it loads as SP does, and FE is 1 if the load is accepted
pub run-loads : (c : Counter) → flag c AS ≡ true
    → enter_run c ≡ cond (eqb (load (emptied c)).er 0) (on FE (load (emptied c))) (load (emptied c))
unfolding enter_run
run-loads c h = rw h (start-loads (emptied c))
