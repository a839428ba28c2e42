-- Loading keeps a state well formed: what is loaded passed the rules, and ED goes with ER.
use mathlib.Core.Path.{◌≡◌, ◌∙◌}
use mathlib.Core.Bool.{true, false}
use Prim.Native.Nat.{ℕ, ◌≤◌, ◌<◌, ◌^◌}
use native.Mathlib.Nat.{le_trans, lt_of_le_of_lt}
use borrow.Author.Tests.{eqb-true}
use lib.Dec.{eqb, lit<, lit≤}
use Rattle.word.specs.Masks.{bit, set_bit}
use Rattle.word.proofs.Masks.{bit-set_bit, bit-clear_bit, set_bit-lt, clear_bit-le}
use Rattle.word.proofs.Branches.{cond-cases}
use Rattle.counter.specs.declared.state.Settings.{Settings}
use Rattle.counter.specs.declared.state.Counter.{Counter}
use Rattle.counter.specs.Parts.{flag, ED, LOADED, with_active, with_flags}
use Rattle.counter.specs.Loading.{rules, rule_count, preset_rules, AllPass, first_broken, preset_broken, without_error, accepted}
use Rattle.counter.specs.Loading.{rejected, load, with_presets, preset_accepted, preset_load}
use Rattle.counter.specs.WellFormed.{SettingsTyped}
use Rattle.counter.proofs.FirstBroken.{broken-le, passes-all, first-presets}
use Rattle.counter.proofs.Changes.{Well}

-- ---- the number of a broken rule

pub first-number : (s : Settings) → first_broken s ≤ rule_count
unfolding first_broken
first-number s = broken-le 0 (rules s)

preset-number : (s a : Settings) → preset_broken s a ≤ rule_count
unfolding preset_broken
preset-number s a = le_trans (broken-le 2 (preset_rules s a)) (lit≤ tt)

-- ---- rejected

pub well-rejected : (c : Counter) (n : ℕ) → Well c → n ≤ rule_count → eqb n 0 ≡ false → Well (rejected n c)
well-rejected c n w h z =
    let f = w.formed in
    let t = w.typed in
    record {
      formed = record {
        flags = set_bit-lt 20 c.flags ED f.flags (lit< tt);
        out = f.out;
        levels = f.levels;
        causes = f.causes;
        er = h;
        ed = bit-set_bit c.flags ED ED ∙ rw z;
        active = rw (bit-set_bit c.flags ED LOADED) f.active;
      };
      typed = record { staged = t.staged; active = t.active; acc = t.acc; waiting = t.waiting };
    }

-- ---- accepted

-- ED and ER at 0, LOADED at 1, and active settings that pass the rules
well-cleared : (c : Counter) (s : Settings) (v : ℕ) → Well c → v < 2 ^ 20 → bit v LOADED ≡ true → first_broken s ≡ 0 → SettingsTyped s
    → Well (without_error (with_flags v (with_active s c)))
well-cleared c s v w below on passes typed =
    let f = w.formed in
    let t = w.typed in
    record {
      formed = record {
        flags = lt_of_le_of_lt (clear_bit-le 32 v ED) below;
        out = f.out;
        levels = f.levels;
        causes = f.causes;
        er = lit≤ tt;
        ed = bit-clear_bit 32 v ED ED (lit< tt) (lit< tt);
        active = rw (bit-clear_bit 32 v ED LOADED (lit< tt) (lit< tt), on, passes);
      };
      typed = record { staged = t.staged; active = typed; acc = t.acc; waiting = t.waiting };
    }

pub well-accepted : (c : Counter) → Well c → first_broken c.staged ≡ 0 → Well (accepted c)
well-accepted c w h =
    well-cleared c c.staged (set_bit c.flags LOADED) w (set_bit-lt 20 c.flags LOADED w.formed.flags (lit< tt))
    (bit-set_bit c.flags LOADED LOADED) h w.typed.staged

pub well-load : (c : Counter) → Well c → Well (load c)
unfolding load
well-load c w =
    let n : ℕ = first_broken c.staged in
    cond-cases Well (eqb n 0) (accepted c) (rejected n c) (λ z. well-accepted c w (eqb-true n 0 z))
    (λ z. well-rejected c n w (first-number c.staged) z)

-- ---- the preset load

-- loaded settings with new presets that pass rules 3 to 5 pass all rules
presets-pass : (s a : Settings) → first_broken a ≡ 0 → preset_broken s a ≡ 0 → first_broken (with_presets s a) ≡ 0
unfolding preset_broken
presets-pass s a h p =
    let pass : AllPass (rules a) = passes-all a h in
    first-presets (with_presets s a) ∙ rw (pass 0, pass 1, p, pass 5)

pub well-presets : (c : Counter) → Well c → flag c LOADED ≡ true → preset_broken c.staged c.active ≡ 0 → Well (preset_accepted c)
well-presets c w l h =
    let s = w.typed.staged in
    let a = w.typed.active in
    let passed : first_broken c.active ≡ 0 = eqb-true (first_broken c.active) 0 (rw l at w.formed.active) in
    well-cleared c (with_presets c.staged c.active) c.flags w w.formed.flags l (presets-pass c.staged c.active passed h)
    (record { pfn = a.pfn; mode = a.mode; hip = s.hip; lop = s.lop; ovf = a.ovf; unf = a.unf; omb = a.omb; hpo = s.hpo; lpo = s.lpo })

pub well-preset_load : (c : Counter) → Well c → Well (preset_load c)
unfolding preset_load
well-preset_load c w =
    let n : ℕ = preset_broken c.staged c.active in
    cond-cases Well (flag c LOADED) _ _
    (λ l. cond-cases Well (eqb n 0) (preset_accepted c) (rejected n c) (λ z. well-presets c w l (eqb-true n 0 z))
    (λ z. well-rejected c n w (preset-number c.staged c.active) z))
    (λ l. w)
