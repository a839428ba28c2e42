-- A well-formed state stays so when one part is changed to a value that fits it.
use mathlib.Core.Path.{◌∙◌}
use Prim.Native.Nat.{ℕ, ◌<◌, ◌≤◌, ◌^◌}
use lib.IntN.{ℤ}
use mir.Syntax.{w32}
use mir.Val.{SFits}
use Rattle.counter.specs.declared.state.Settings.{Settings}
use Rattle.counter.specs.declared.state.Counter.{Counter}
use Rattle.counter.specs.Parts.{with_staged, with_acc, with_out, with_flags, with_levels}
use Rattle.counter.specs.WellFormed.{SettingsTyped, Typed, Good}
use Rattle.counter.proofs.Flags.{Kept}
use Rattle.counter.proofs.Formed.{Formed, formed-parts, parts-formed}

-- a well-formed state, by its parts
pub record Well (c : Counter) : Type 0 where
  pub formed : Formed c
  pub typed : Typed c

pub good-well : (c : Counter) → Good c → Well c
good-well c g = record { formed = formed-parts c g.formed; typed = g.typed }

pub well-good : (c : Counter) → Well c → Good c
well-good c w = record { formed = parts-formed c w.formed; typed = w.typed }

-- ---- one part

module _ (c : Counter) (w : Well c) where
  f : Formed c
  f = w.formed

  t : Typed c
  t = w.typed

  pub well-levels : (n : ℕ) → n ≤ 15 → Well (with_levels n c)
  well-levels n h =
      record {
        formed = record { flags = f.flags; out = f.out; levels = h; causes = f.causes; er = f.er; ed = f.ed; active = f.active };
        typed = record { staged = t.staged; active = t.active; acc = t.acc; waiting = t.waiting };
      }

  pub well-acc : (v : ℤ) → SFits w32 v → Well (with_acc v c)
  well-acc v h =
      record {
        formed = record { flags = f.flags; out = f.out; levels = f.levels; causes = f.causes; er = f.er; ed = f.ed; active = f.active };
        typed = record { staged = t.staged; active = t.active; acc = h; waiting = t.waiting };
      }

  pub well-staged : (s : Settings) → SettingsTyped s → Well (with_staged s c)
  well-staged s h =
      record {
        formed = record { flags = f.flags; out = f.out; levels = f.levels; causes = f.causes; er = f.er; ed = f.ed; active = f.active };
        typed = record { staged = h; active = t.active; acc = t.acc; waiting = t.waiting };
      }

  pub well-out : (n : ℕ) → n < 2 ^ 12 → Well (with_out n c)
  well-out n h =
      record {
        formed = record { flags = f.flags; out = h; levels = f.levels; causes = f.causes; er = f.er; ed = f.ed; active = f.active };
        typed = record { staged = t.staged; active = t.active; acc = t.acc; waiting = t.waiting };
      }

  -- flags other than ED and LOADED
  pub well-flags : (n : ℕ) → Kept c.flags n → Well (with_flags n c)
  well-flags n k =
      record {
        formed = record {
          flags = k.below f.flags;
          out = f.out;
          levels = f.levels;
          causes = f.causes;
          er = f.er;
          ed = k.ed ∙ f.ed;
          active = rw k.loaded f.active;
        };
        typed = record { staged = t.staged; active = t.active; acc = t.acc; waiting = t.waiting };
      }
