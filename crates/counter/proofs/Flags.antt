-- What the flag word keeps when other flags are set or cleared: it stays below 2 ^ 20, and ED and LOADED keep their levels. And what a count
-- sets: OF and UF by a rollover alone.
use mathlib.Core.Path.{◌≡◌, refl, ap, ◌∙◌}
use mathlib.Core.Bool.{Bool, true, false, cond, ◌&&◌}
use Prim.Native.Nat.{ℕ, ◌<◌, ◌^◌}
use native.Mathlib.Nat.{lt_of_le_of_lt, lt_trans}
use lib.Dec.{T, eqb, ltb, lit<}
use Rattle.word.specs.Masks.{bit, set_bit, clear_bit}
use Rattle.word.proofs.Masks.{bit-set_bit, bit-clear_bit, set_bit-lt, clear_bit-le}
use Rattle.word.proofs.Branches.{cond-cases}
use Rattle.accumulator.specs.Causes.{low_preset, high_preset, underflow, overflow}
use Rattle.counter.specs.declared.desk.Outcome.{Outcome}
use Rattle.counter.specs.declared.desk.Outcome.TheVariants.{Starts, Waits, Lost}
use Rattle.counter.specs.Desk.{Next}
use Rattle.counter.specs.Desk.{Cause, Nothing}
use Rattle.counter.specs.Parts.{UIL, ED, LOADED, DIR, UF, OF, MD, LPI, HPI, UFI, OFI}
use Rattle.counter.specs.Interrupts.{quiet, started, posted_flags, finished_flags}
use Rattle.counter.specs.Sample.{up_flags, down_flags}

pub record Kept (w v : ℕ) : Type 0 where
  pub below : w < 2 ^ 20 → v < 2 ^ 20
  pub ed : bit v ED ≡ bit w ED
  pub loaded : bit v LOADED ≡ bit w LOADED

pub kept-refl : (w : ℕ) → Kept w w
kept-refl w = record { below = λ h. h; ed = refl; loaded = refl }

pub kept-trans : (u v w : ℕ) → Kept u v → Kept v w → Kept u w
kept-trans u v w p q = record { below = λ h. q.below (p.below h); ed = q.ed ∙ p.ed; loaded = q.loaded ∙ p.loaded }

-- ---- one flag other than ED and LOADED

-- a flag of its own: neither ED nor LOADED
pub record Other (n : ℕ) : Type 0 where
  pub small : n < 20
  pub not-ed : eqb n ED ≡ false
  pub not-loaded : eqb n LOADED ≡ false

pub kept-set : (w n : ℕ) → Other n → Kept w (set_bit w n)
kept-set w n o =
    record {
      below = λ h. set_bit-lt 20 w n h o.small;
      ed = bit-set_bit w n ED ∙ ap (λ (b : Bool). cond b true (bit w ED)) o.not-ed;
      loaded = bit-set_bit w n LOADED ∙ ap (λ (b : Bool). cond b true (bit w LOADED)) o.not-loaded;
    }

pub kept-clear : (w n : ℕ) → Other n → Kept w (clear_bit 32 w n)
kept-clear w n o =
    let h : n < 32 = lt_trans o.small (lit< tt) in
    record {
      below = λ b. lt_of_le_of_lt (clear_bit-le 32 w n) b;
      ed = bit-clear_bit 32 w n ED h (lit< tt) ∙ ap (λ (b : Bool). cond b false (bit w ED)) o.not-ed;
      loaded = bit-clear_bit 32 w n LOADED h (lit< tt) ∙ ap (λ (b : Bool). cond b false (bit w LOADED)) o.not-loaded;
    }

-- a flag that is written out
pub other : (n : ℕ) → T (ltb n 20) → eqb n ED ≡ false → eqb n LOADED ≡ false → Other n
other n t e l = record { small = lit< t; not-ed = e; not-loaded = l }

-- ---- the flags of counting and of causes

pub kept-up_flags : (single : Bool) (cause w : ℕ) → Kept w (up_flags single cause w)
unfolding up_flags
kept-up_flags single cause w =
    let up : ℕ = set_bit w DIR in
    let dir : Kept w up = kept-set w DIR (other DIR tt refl refl) in
    let more : (n : ℕ) → Other n → Kept w (set_bit up n) = λ n o. kept-trans w up (set_bit up n) dir (kept-set up n o) in
    cond-cases (Kept w) (eqb cause overflow) _ _ (λ e. more OF (other OF tt refl refl))
    (λ e. cond-cases (Kept w) (eqb cause high_preset && single) _ _ (λ e. more MD (other MD tt refl refl)) (λ e. dir))

pub kept-down_flags : (cause w : ℕ) → Kept w (down_flags cause w)
unfolding down_flags
kept-down_flags cause w =
    let down : ℕ = clear_bit 32 w DIR in
    let dir : Kept w down = kept-clear w DIR (other DIR tt refl refl) in
    cond-cases (Kept w) (eqb cause underflow) _ _ (λ e. kept-trans w down (set_bit down UF) dir (kept-set down UF (other UF tt refl refl))) (λ e. dir)

pub kept-quiet : (w : ℕ) → Kept w (quiet w)
unfolding quiet
kept-quiet w =
    let a : ℕ = clear_bit 32 w LPI in
    let b : ℕ = clear_bit 32 a HPI in
    let c : ℕ = clear_bit 32 b UFI in
    kept-trans w a _ (kept-clear w LPI (other LPI tt refl refl))
    (kept-trans a b _ (kept-clear a HPI (other HPI tt refl refl))
    (kept-trans b c _ (kept-clear b UFI (other UFI tt refl refl)) (kept-clear c OFI (other OFI tt refl refl))))

pub kept-started : (cause w : ℕ) → Kept w (started cause w)
unfolding started
kept-started cause w =
    cond-cases (Kept w) (eqb cause low_preset) _ _ (λ e. start LPI (other LPI tt refl refl))
    (λ e. cond-cases (Kept w) (eqb cause high_preset) _ _ (λ e. start HPI (other HPI tt refl refl))
    (λ e. cond-cases (Kept w) (eqb cause underflow) _ _ (λ e. start UFI (other UFI tt refl refl))
    (λ e. cond-cases (Kept w) (eqb cause overflow) _ _ (λ e. start OFI (other OFI tt refl refl)) (λ e. kept-quiet w))))
  where
    start : (n : ℕ) → Other n → Kept w (set_bit (quiet w) n)
    start n o = kept-trans w (quiet w) (set_bit (quiet w) n) (kept-quiet w) (kept-set (quiet w) n o)

pub kept-posted : (outcome : Outcome) (cause w : ℕ) → Kept w (posted_flags outcome cause w)
unfolding posted_flags
kept-posted Starts cause w = kept-started cause w
kept-posted Waits cause w = kept-refl w
kept-posted Lost cause w = kept-set w UIL (other UIL tt refl refl)

pub kept-finished : (next : Next) (w : ℕ) → Kept w (finished_flags next w)
unfolding finished_flags
kept-finished (Cause cause) w = kept-started cause w
kept-finished Nothing w = kept-refl w

-- ---- what a count sets

-- OF is set by overflow alone
pub up_flags-of : (single : Bool) (cause w : ℕ) → bit (up_flags single cause w) OF ≡ cond (eqb cause overflow) true (bit w OF)
unfolding up_flags
up_flags-of single cause w = go (eqb cause overflow) (eqb cause high_preset && single)
  where
    go : (a b : Bool) → bit (cond a (set_bit (set_bit w DIR) OF) (cond b (set_bit (set_bit w DIR) MD) (set_bit w DIR))) OF ≡ cond a true (bit w OF)
    go true b = bit-set_bit (set_bit w DIR) OF OF
    go false true = bit-set_bit (set_bit w DIR) MD OF ∙ bit-set_bit w DIR OF
    go false false = bit-set_bit w DIR OF

-- UF is set by underflow alone
pub down_flags-uf : (cause w : ℕ) → bit (down_flags cause w) UF ≡ cond (eqb cause underflow) true (bit w UF)
unfolding down_flags
down_flags-uf cause w = go (eqb cause underflow)
  where
    go : (a : Bool) → bit (cond a (set_bit (clear_bit 32 w DIR) UF) (clear_bit 32 w DIR)) UF ≡ cond a true (bit w UF)
    go true = bit-set_bit (clear_bit 32 w DIR) UF UF
    go false = bit-clear_bit 32 w DIR UF (lit< tt) (lit< tt)

-- ---- UIL, which neither counts nor causes that start touch

pub up_flags-uil : (single : Bool) (cause w : ℕ) → bit (up_flags single cause w) UIL ≡ bit w UIL
unfolding up_flags
up_flags-uil single cause w = go (eqb cause overflow) (eqb cause high_preset && single)
  where
    go : (a b : Bool) → bit (cond a (set_bit (set_bit w DIR) OF) (cond b (set_bit (set_bit w DIR) MD) (set_bit w DIR))) UIL ≡ bit w UIL
    go true b = bit-set_bit (set_bit w DIR) OF UIL ∙ bit-set_bit w DIR UIL
    go false true = bit-set_bit (set_bit w DIR) MD UIL ∙ bit-set_bit w DIR UIL
    go false false = bit-set_bit w DIR UIL

pub down_flags-uil : (cause w : ℕ) → bit (down_flags cause w) UIL ≡ bit w UIL
unfolding down_flags
down_flags-uil cause w = go (eqb cause underflow)
  where
    go : (a : Bool) → bit (cond a (set_bit (clear_bit 32 w DIR) UF) (clear_bit 32 w DIR)) UIL ≡ bit w UIL
    go true = bit-set_bit (clear_bit 32 w DIR) UF UIL ∙ bit-clear_bit 32 w DIR UIL (lit< tt) (lit< tt)
    go false = bit-clear_bit 32 w DIR UIL (lit< tt) (lit< tt)

pub started-uil : (cause w : ℕ) → bit (started cause w) UIL ≡ bit w UIL
unfolding started quiet
started-uil cause w =
    cond-cases Still (eqb cause low_preset) _ _ (λ e. bit-set_bit (quiet w) LPI UIL ∙ still)
    (λ e. cond-cases Still (eqb cause high_preset) _ _ (λ e. bit-set_bit (quiet w) HPI UIL ∙ still)
    (λ e. cond-cases Still (eqb cause underflow) _ _ (λ e. bit-set_bit (quiet w) UFI UIL ∙ still)
    (λ e. cond-cases Still (eqb cause overflow) _ _ (λ e. bit-set_bit (quiet w) OFI UIL ∙ still) (λ e. still))))
  where
    Still : ℕ → Type 0
    Still v = bit v UIL ≡ bit w UIL

    cleared : (v n : ℕ) → n < 32 → eqb n UIL ≡ false → bit (clear_bit 32 v n) UIL ≡ bit v UIL
    cleared v n h e = bit-clear_bit 32 v n UIL h (lit< tt) ∙ rw e

    still : bit (quiet w) UIL ≡ bit w UIL
    still =
        cleared (clear_bit 32 (clear_bit 32 (clear_bit 32 w LPI) HPI) UFI) OFI (lit< tt) refl
        ∙ cleared (clear_bit 32 (clear_bit 32 w LPI) HPI) UFI (lit< tt) refl
        ∙ cleared (clear_bit 32 w LPI) HPI (lit< tt) refl
        ∙ cleared w LPI (lit< tt) refl
