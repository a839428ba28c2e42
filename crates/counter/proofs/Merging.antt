-- A cause that waits already changes nothing when it comes again, and UIL is set by one that is lost alone.
use mathlib.Core.Path.{◌≡◌, refl, sym, ap, ◌∙◌}
use mathlib.Core.Bool.{Bool, true, false, cond, not, ◌&&◌, ◌||◌, and-false, or-true, or-false, or_assoc}
use mathlib.Core.List.{List, [], ◌∷◌}
use Prim.Native.Nat.{ℕ, zero, suc, ◌<◌}
use native.Mathlib.Omega.{arith}
use borrow.Author.Tests.{ltb-true, eq-eqb}
use lib.Dec.{eqb, ltb, lit<}
use lib.ListN.{length, get_or, set}
use Rattle.word.specs.Masks.{bit, set_bit}
use Rattle.word.proofs.Masks.{bit-set_bit, set_bit-lt, set_bit-on}
use Rattle.word.proofs.Branches.{cond-cases}
use Rattle.counter.specs.declared.desk.Desk.{Desk}
use Rattle.counter.specs.declared.desk.Outcome.TheVariants.{Starts, Waits, Lost}
use Rattle.counter.specs.declared.state.Counter.{Counter}
use Rattle.counter.specs.Desk.{first, second, waits, starting, waiting, posted, post}
use Rattle.counter.specs.Parts.{UIL, with_flags, with_desk, flag, on}
use Rattle.counter.specs.Interrupts.{enabled, posted_flags, interrupt, with_outputs, raise}
use Rattle.counter.specs.WellFormed.{well_formed}
use Rattle.counter.specs.Rows.{loses, raise_all, lost_in}
use Rattle.counter.proofs.Changes.{Well}
use Rattle.counter.proofs.Flags.{started-uil}
use Rattle.counter.proofs.Formed.{formed-parts}
use Rattle.counter.proofs.Queue.{queue-differ}
use Rattle.counter.proofs.Masked.{never}

-- ---- a cause comes, by what the desk's three tests say

module _ (cause : ℕ) (c : Counter) where
  abbrev d : Desk
  d = c.desk

  -- it waits already: nothing changes
  pub interrupt-waits : waits cause (first d) (second d) ≡ true → interrupt cause c ≡ c
  unfolding interrupt post posted_flags
  interrupt-waits m = rw m

  -- one runs and there is room: it waits behind the others; whether it runs too is not asked
  pub interrupt-room : waits cause (first d) (second d) ≡ false → eqb d.running 0 ≡ false → ltb d.queued 2 ≡ true
      → interrupt cause c ≡ with_desk (waiting cause d) c
  unfolding interrupt post posted_flags
  interrupt-room m r q = rw (m, r, q)

  -- one runs and there is no room: it is lost
  pub interrupt-full : waits cause (first d) (second d) ≡ false → eqb d.running 0 ≡ false → ltb d.queued 2 ≡ false → interrupt cause c ≡ on UIL c
  unfolding interrupt post posted_flags
  interrupt-full m r q = rw (m, r, q)

-- raised, one that waits already puts its outputs, and nothing else changes
pub raise-waits : (cause : ℕ) (c : Counter) → waits cause (first c.desk) (second c.desk) ≡ true → raise cause c ≡ with_outputs cause c
unfolding raise
raise-waits cause c m =
    cond-cases (λ (e : Counter). e ≡ with_outputs cause c) (enabled c.flags cause) _ _ (λ e. interrupt-waits cause (with_outputs cause c) m) (λ e. refl)

-- ---- posted twice

-- one that has come to wait waits
waits-added : (l : List ℕ) (n cause : ℕ) → length l ≡ 2 → n < 2 → waits cause (get_or (set l n cause) 0 0) (get_or (set l n cause) 1 0) ≡ true
waits-added [] n cause e h = absurd (omega arith)
waits-added (a ∷ []) n cause e h = absurd (omega arith)
waits-added (a ∷ b ∷ l) zero cause e h = rw (eq-eqb cause cause refl)
waits-added (a ∷ b ∷ l) (suc zero) cause e h = rw (eq-eqb cause cause refl) (or-true (eqb a cause))
waits-added (a ∷ b ∷ l) (suc (suc n)) cause e h = absurd (omega arith)

-- where one runs, posting a cause twice is posting it once
pub interrupt-twice : (cause : ℕ) (c : Counter) → Well c → eqb c.desk.running 0 ≡ false → interrupt cause (interrupt cause c) ≡ interrupt cause c
interrupt-twice cause c w r = go (waits cause (first d) (second d)) (ltb d.queued 2) refl refl
  where
    d : Desk
    d = c.desk

    again : on UIL (on UIL c) ≡ on UIL c
    again =
        ap (λ (f : ℕ). with_flags f c)
        (set_bit-on 20 (set_bit c.flags UIL) UIL (set_bit-lt 20 c.flags UIL w.formed.flags (lit< tt)) (lit< tt) (bit-set_bit c.flags UIL UIL))

    same : (e : Counter) → interrupt cause c ≡ e → interrupt cause e ≡ e → interrupt cause (interrupt cause c) ≡ interrupt cause c
    same e p q = ap (interrupt cause) p ∙ q ∙ sym p

    go : (m q : Bool) → waits cause (first d) (second d) ≡ m → ltb d.queued 2 ≡ q → interrupt cause (interrupt cause c) ≡ interrupt cause c
    go true q m e = same c (interrupt-waits cause c m) (interrupt-waits cause c m)
    go false true m q =
        same (with_desk (waiting cause d) c) (interrupt-room cause c m r q)
        (interrupt-waits cause (with_desk (waiting cause d) c) (waits-added d.waiting d.queued cause w.typed.waiting (ltb-true d.queued 2 q)))
    go false false m q = same (on UIL c) (interrupt-full cause c m r q) (interrupt-full cause (on UIL c) m r q ∙ again)

-- ---- UIL

-- it is set exactly by a cause that is lost
pub interrupt-uil : (cause : ℕ) (c : Counter) → flag (interrupt cause c) UIL ≡ (flag c UIL || loses cause c.desk)
unfolding interrupt post posted_flags
interrupt-uil cause c = go (waits cause (first d) (second d)) (eqb d.running 0) (ltb d.queued 2)
  where
    d : Desk
    d = c.desk

    go : (m r q : Bool)
        → bit (posted_flags (cond m (posted d Waits) (cond r (posted (starting cause d) Starts) (cond q (posted (waiting cause d) Waits) (posted d Lost)))).outcome cause c.flags) UIL
        ≡ (flag c UIL || not r && not q && not m)
    go true r q = rw (and-false (not r && not q)) (sym (or-false (flag c UIL)))
    go false true q = started-uil cause c.flags ∙ sym (or-false (flag c UIL))
    go false false true = sym (or-false (flag c UIL))
    go false false false = bit-set_bit c.flags UIL UIL ∙ sym (or-true (flag c UIL))

-- a cause that does not become an interrupt is not lost
pub raise-uil : (cause : ℕ) (c : Counter) → flag (raise cause c) UIL ≡ (flag c UIL || enabled c.flags cause && loses cause c.desk)
unfolding raise
raise-uil cause c = go (enabled c.flags cause)
  where
    go : (e : Bool) → flag (cond e (interrupt cause (with_outputs cause c)) (with_outputs cause c)) UIL ≡ (flag c UIL || e && loses cause c.desk)
    go true = interrupt-uil cause (with_outputs cause c)
    go false = sym (or-false (flag c UIL))

-- a row of causes sets it exactly if one of them is lost
pub raise-all-uil : (row : List ℕ) (c : Counter) → flag (raise_all row c) UIL ≡ (flag c UIL || lost_in row c)
unfolding raise_all lost_in
raise-all-uil [] c = sym (or-false (flag c UIL))
raise-all-uil (cause ∷ row) c = raise-all-uil row (raise cause c) ∙ rw (raise-uil cause c) (or_assoc (flag c UIL) (enabled c.flags cause && loses cause c.desk) (lost_in row (raise cause c)))

-- ---- well formed

-- two that wait differ
pub waiting-differ : (c : Counter) → well_formed c ≡ true → eqb (second c.desk) 0 ≡ false → first c.desk ≡ second c.desk → ⊥
waiting-differ c formed two =
    let d : Desk = c.desk in
    queue-differ (first d) (second d) d.queued two (formed-parts c formed).causes.queue

pub equal-formed : (c : Counter) → eqb (second c.desk) 0 ≡ false → first c.desk ≡ second c.desk → well_formed c ≡ false
equal-formed c two same = never (well_formed c) (λ formed. waiting-differ c formed two same)
