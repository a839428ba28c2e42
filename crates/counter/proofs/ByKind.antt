-- The step by kinds: a legal sample is the sample of its levels, and any other event is the other kinds' alone.
use mathlib.Core.Path.{◌≡◌, refl, sym, ap, ◌∙◌}
use mathlib.Core.Bool.{Bool, true, false, cond, ◌&&◌, and-eq-true_iff}
use Prim.Native.Nat.{ℕ}
use native.Mathlib.Nat.{mod-eq_of_lt}
use native.Mathlib.Omega.{arith}
use borrow.Author.Tests.{eqb-true, leb-true}
use lib.Dec.{eqb, leb}
use lib.IntN.{ℤ, pos}
use Rattle.counter.specs.declared.state.Counter.{Counter}
use Rattle.counter.specs.Sample.{sample}
use Rattle.counter.specs.Events.{Numbers, numbers, is_levels, legal, is_sample, levels_of, control, step, step_control}

module _ (kind sub : ℕ) (v : ℤ) where
  -- of kind 1, the legal events are the samples
  legal-1 : kind ≡ 1 → legal kind sub v ≡ is_sample kind sub v
  unfolding legal
  legal-1 e = rw e

  kind-1 : is_sample kind sub v ≡ true → kind ≡ 1
  kind-1 e = eqb-true kind 1 (go (eqb kind 1) e)
    where
      go : (b : Bool) → (b && eqb sub 0 && is_levels v) ≡ true → b ≡ true
      go true h = refl
      go false h = h

  pub legal-sample : is_sample kind sub v ≡ true → legal kind sub v ≡ true
  legal-sample e = legal-1 (kind-1 e) ∙ e

  module _ (c : Counter) where
    pub step-sample : is_sample kind sub v ≡ true → step kind sub v c ≡ sample (levels_of v) c
    unfolding step
    step-sample e = rw (legal-sample e, kind-1 e)

    pub step-other : is_sample kind sub v ≡ false → step kind sub v c ≡ step_control kind sub v c
    unfolding step step_control
    step-other e = go (eqb kind 1) refl
      where
        go : (b : Bool) → eqb kind 1 ≡ b
            → cond (legal kind sub v) (cond b (sample (levels_of v) c) (control kind sub v c)) c ≡ cond (legal kind sub v) (control kind sub v c) c
        go true k = rw (legal-1 (eqb-true kind 1 k) ∙ e)
        go false k = refl

-- a sample of these levels
pub step-levels : (kind sub : ℕ) (v : ℤ) (levels : ℕ) (c : Counter) → legal kind sub v ≡ true → numbers 1 0 (pos levels) ≡ numbers kind sub v
    → step kind sub v c ≡ sample levels c
unfolding step
step-levels kind sub v levels c h e =
    let allowed : legal 1 0 (pos levels) ≡ true = ap (λ (n : Numbers). legal n.kind n.sub n.value) e ∙ h in
    let small : leb levels 15 ≡ true = ((and-eq-true_iff (leb 0 levels) (leb levels 15)).0 (sym (legal-1 1 0 (pos levels) refl) ∙ allowed)).1 in
    ap (λ (n : Numbers). step n.kind n.sub n.value c) (sym e)
    ∙ rw allowed (ap (λ (l : ℕ). sample l c) (mod-eq_of_lt (omega (arith, leb-true levels 15 small))))
