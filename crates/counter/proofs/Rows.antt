-- Where every cause that comes is one of two, and so are those that wait, none is lost: over a row of causes, and over a row of samples.
use mathlib.Core.Path.{◌≡◌, refl, sym, ◌∙◌}
use mathlib.Core.Bool.{Bool, true, false, cond, not, ◌&&◌, and-false, or-true, or-false, true≢false}
use mathlib.Core.Logic.{◌⊎◌, inl, inr}
use mathlib.Core.List.{List, [], ◌∷◌, Mem, mem-cons_self, mem-cons_of_mem}
use Prim.Native.Nat.{ℕ, zero, suc}
use borrow.Author.Tests.{eqb-true, eq-eqb}
use lib.Dec.{eqb, ltb}
use lib.IntN.{pos, ◌+ℤ◌, ◌-ℤ◌}
use lib.Signed.{le_z}
use lib.ListN.{get_or, set}
use Rattle.word.specs.Masks.{bit}
use Rattle.word.specs.TwosComplement.{eq_z}
use Rattle.word.proofs.Branches.{cond-cases}
use Rattle.accumulator.specs.Causes.{low_preset, high_preset, underflow, overflow, cause_count}
use Rattle.accumulator.proofs.Landing.{up-cause, down-cause}
use Rattle.counter.specs.declared.desk.Desk.{Desk}
use Rattle.counter.specs.Desk.{Posted}
use Rattle.counter.specs.declared.desk.Outcome.TheVariants.{Waits}
use Rattle.counter.specs.declared.state.Settings.{Settings}
use Rattle.counter.specs.declared.state.Counter.{Counter}
use Rattle.counter.specs.Sample.{Sampled}
use Rattle.counter.specs.Sample.{Count}
use Rattle.counter.specs.Sample.{None, Up, Down}
use Rattle.counter.specs.Desk.{first, second, waits, posted, post}
use Rattle.counter.specs.Parts.{UIL, with_acc, with_flags, with_levels, flag, up_only, mode}
use Rattle.counter.specs.Interrupts.{enabled, interrupt, raise}
use Rattle.counter.specs.Sample.{up_of, down_of, counted_by, resets, count, sampled, sample}
use Rattle.counter.specs.WellFormed.{Good}
use Rattle.counter.specs.Rows.{among, loses, lost_in, sample_all, Along, Raises, NotDown, NotUp, Between}
use Rattle.counter.proofs.Flags.{up_flags-uil, down_flags-uil}
use Rattle.counter.proofs.Queue.{IsCause, Queue, WellDesk, queue-full, queue-differ, well-post}
use Rattle.counter.proofs.Changes.{good-well}
use Rattle.counter.proofs.Interrupting.{desk}
use Rattle.counter.proofs.Samples.{enabled-cause}
use Rattle.counter.proofs.Merging.{raise-uil}

-- ---- the desk

-- a well-formed desk on which none waits but one of two
pub record Two (a b : ℕ) (d : Desk) : Type 0 where
  pub well : WellDesk cause_count d
  pub first-of : among a b (first d) ≡ true
  pub second-of : among a b (second d) ≡ true

-- so is that of a well-formed state with such waiting causes
pub good-two : (a b : ℕ) (c : Counter) → Good c → among a b (first c.desk) ≡ true → among a b (second c.desk) ≡ true → Two a b c.desk
good-two a b c good f s = record { well = desk c (good-well c good); first-of = f; second-of = s }

-- a cause put into a place: what holds of it and of those that wait holds of those that wait then
set-keeps : (P : ℕ → Type 0) (l : List ℕ) (n cause : ℕ) → P cause → P (get_or l 0 0) → P (get_or l 1 0) → P (get_or (set l n cause) 0 0) × P (get_or (set l n cause) 1 0)
set-keeps P [] n cause p q r = (q, r)
set-keeps P (a ∷ []) zero cause p q r = (p, r)
set-keeps P (a ∷ []) (suc n) cause p q r = (q, r)
set-keeps P (a ∷ b ∷ l) zero cause p q r = (p, r)
set-keeps P (a ∷ b ∷ l) (suc zero) cause p q r = (q, p)
set-keeps P (a ∷ b ∷ l) (suc (suc n)) cause p q r = (q, r)

-- a sample's flags keep UIL
sampled-uil : (new : ℕ) (c : Counter) → bit (sampled new c).flags UIL ≡ flag c UIL
unfolding sampled counted_by
sampled-uil new c =
    cond-cases (λ (r : Sampled). bit r.flags UIL ≡ flag c UIL) (resets new c) _ _ (λ e. refl) (λ e. go (count new c))
  where
    go : (way : Count) → bit (counted_by way c).flags UIL ≡ flag c UIL
    go None = refl
    go Up = up_flags-uil (up_only (mode c)) (up_of c).cause c.flags
    go Down = down_flags-uil (down_of c).cause c.flags

module _ (a b : ℕ) where
  which : (n : ℕ) → eqb n 0 ≡ false → among a b n ≡ true → (n ≡ a) ⊎ (n ≡ b)
  which n z h = go (eqb n a) refl
    where
      go : (x : Bool) → eqb n a ≡ x → (n ≡ a) ⊎ (n ≡ b)
      go true e = inl (eqb-true n a e)
      go false e = inr (eqb-true n b (rw (z, e) at h))

  -- of three that are each one of two, where the first and the second differ, the third is one of them
  meets : (x y z : ℕ) → (x ≡ y → ⊥) → (x ≡ a) ⊎ (x ≡ b) → (y ≡ a) ⊎ (y ≡ b) → (z ≡ a) ⊎ (z ≡ b) → waits z x y ≡ true
  meets x y z n (inl p) (inl q) r = absurd (n (p ∙ sym q))
  meets x y z n (inl p) (inr q) (inl r) = rw (eq-eqb x z (p ∙ sym r))
  meets x y z n (inl p) (inr q) (inr r) = rw (eq-eqb y z (q ∙ sym r)) (or-true (eqb x z))
  meets x y z n (inr p) (inl q) (inl r) = rw (eq-eqb y z (q ∙ sym r)) (or-true (eqb x z))
  meets x y z n (inr p) (inl q) (inr r) = rw (eq-eqb x z (p ∙ sym r))
  meets x y z n (inr p) (inr q) r = absurd (n (p ∙ sym q))

  module _ (d : Desk) (t : Two a b d) (cause : ℕ) (one : among a b cause ≡ true) where
    q : Queue cause_count (first d) (second d) d.queued
    q = t.well.causes.queue

    -- where two wait they are the two, and it is one of them
    lost-none : eqb cause 0 ≡ false → loses cause d ≡ false
    lost-none some = go (ltb d.queued 2) refl
      where
        full : ltb d.queued 2 ≡ false → waits cause (first d) (second d) ≡ true
        full f =
            let x : eqb (first d) 0 ≡ false = (queue-full (first d) (second d) d.queued f q).0 in
            let y : eqb (second d) 0 ≡ false = (queue-full (first d) (second d) d.queued f q).1 in
            let differ : first d ≡ second d → ⊥ = queue-differ (first d) (second d) d.queued y q in
            meets (first d) (second d) cause differ (which (first d) x t.first-of) (which (second d) y t.second-of) (which cause some one)

        go : (k : Bool) → ltb d.queued 2 ≡ k → (not (eqb d.running 0) && not k && not (waits cause (first d) (second d))) ≡ false
        go true e = rw (and-false (not (eqb d.running 0)))
        go false e = rw (full e) (and-false (not (eqb d.running 0) && true))

    two-post : IsCause cause_count cause → Two a b (post cause d).desk
    unfolding post
    two-post h = record { well = well-post d t.well cause h; first-of = waiting-of.0; second-of = waiting-of.1 }
      where
        Of : Posted → Type 0
        Of p = (among a b (first p.desk) ≡ true) × (among a b (second p.desk) ≡ true)

        as-before : Of (posted d Waits)
        as-before = (t.first-of, t.second-of)

        waiting-of : Of (post cause d)
        waiting-of =
            cond-cases Of (waits cause (first d) (second d)) _ _ (λ m. as-before)
            (λ m. cond-cases Of (eqb d.running 0) _ _ (λ r. as-before)
            (λ r. cond-cases Of (ltb d.queued 2) _ _
            (λ k. set-keeps (λ (n : ℕ). among a b n ≡ true) d.waiting d.queued cause one t.first-of t.second-of) (λ k. as-before)))

  -- ---- a cause is raised

  module _ (cause : ℕ) (c : Counter) (t : Two a b c.desk) (one : among a b cause ≡ true) where
    pub two-raise : Two a b (raise cause c).desk
    unfolding raise interrupt
    two-raise =
        cond-cases (λ (e : Counter). Two a b e.desk) (enabled c.flags cause) _ _
        (λ e. two-post c.desk t cause one (enabled-cause c.flags cause e)) (λ e. t)

    raise-keeps : (enabled c.flags cause && loses cause c.desk) ≡ false
    raise-keeps = go (enabled c.flags cause) refl
      where
        go : (e : Bool) → enabled c.flags cause ≡ e → (e && loses cause c.desk) ≡ false
        go true e = lost-none c.desk t cause one (enabled-cause c.flags cause e).some
        go false e = refl

  -- ---- a row of causes

  pub none-lost : (row : List ℕ) (c : Counter) → Two a b c.desk → ((cause : ℕ) → Mem cause row → among a b cause ≡ true) → lost_in row c ≡ false
  unfolding lost_in
  none-lost [] c t each = refl
  none-lost (cause ∷ row) c t each =
      let one : among a b cause ≡ true = each cause mem-cons_self in
      rw (raise-keeps cause c t one) (none-lost row (raise cause c) (two-raise cause c t one) (λ n m. each n (mem-cons_of_mem cause m)))

  -- ---- a row of samples

  sample-keeps : (new : ℕ) (c : Counter) → Two a b c.desk → Raises a b new c → flag (sample new c) UIL ≡ flag c UIL
  unfolding sample
  sample-keeps new c t one =
      let r : Sampled = sampled new c in
      let d : Counter = with_flags r.flags (with_acc r.acc (with_levels new c)) in
      raise-uil r.cause d ∙ rw (raise-keeps r.cause d t one) (or-false (flag d UIL)) ∙ sampled-uil new c

  two-sample : (new : ℕ) (c : Counter) → Two a b c.desk → Raises a b new c → Two a b (sample new c).desk
  unfolding sample
  two-sample new c t one =
      let r : Sampled = sampled new c in
      two-raise r.cause (with_flags r.flags (with_acc r.acc (with_levels new c))) t one

  pub samples-keep : (row : List ℕ) (c : Counter) → Two a b c.desk → Along (Raises a b) row c → flag (sample_all row c) UIL ≡ flag c UIL
  unfolding sample_all Along
  samples-keep [] c t each = refl
  samples-keep (new ∷ row) c t each =
      samples-keep row (sample new c) (two-sample new c t each.0) each.1 ∙ sample-keeps new c t each.0

-- ---- the causes that counts raise

module _ (new : ℕ) (c : Counter) where
  abbrev s : Settings
  s = c.active

  -- the cause of a sample is none, or that of its count: a preset's, or a limit's, and that only from the limit on
  by-count : (P : ℕ → Type 0) → P 0
      → (count new c ≡ Up → P high_preset × (le_z s.ovf c.acc ≡ true → P overflow))
      → (count new c ≡ Down → P low_preset × (le_z c.acc s.unf ≡ true → P underflow))
      → P (sampled new c).cause
  unfolding sampled counted_by
  by-count P none ups downs =
      cond-cases (λ (r : Sampled). P r.cause) (resets new c) _ _ (λ e. none) (λ e. go (count new c) refl)
    where
      one-of : (a b : Bool) (limit preset : ℕ) → P preset × (a ≡ true → P limit) → P (cond a limit (cond b preset 0))
      one-of a b limit preset h = cond-cases P a limit _ h.1 (λ e. cond-cases P b preset 0 (λ e. h.0) (λ e. none))

      go : (way : Count) → count new c ≡ way → P (counted_by way c).cause
      go None e = none
      go Up e =
          rw (up-cause (up_only (mode c)) c.acc s.hip s.ovf s.unf) (one-of (le_z s.ovf c.acc) (eq_z (c.acc +ℤ pos 1) s.hip) overflow high_preset (ups e))
      go Down e =
          rw (down-cause c.acc s.lop s.ovf s.unf) (one-of (le_z c.acc s.unf) (eq_z (c.acc -ℤ pos 1) s.lop) underflow low_preset (downs e))

-- ---- counting one way, and between the limits

along-map : {P Q : ℕ → Counter → Type 0} → ((new : ℕ) (c : Counter) → P new c → Q new c) → (row : List ℕ) (c : Counter) → Along P row c → Along Q row c
unfolding Along
along-map f [] c each = tt
along-map f (new ∷ row) c each = (f new c each.0, along-map f row (sample new c) each.1)

module _ (new : ℕ) (c : Counter) where
  pub up-raises : NotDown new c → Raises high_preset overflow new c
  up-raises h = by-count new c (λ (n : ℕ). among high_preset overflow n ≡ true) refl (λ e. (refl, λ l. refl)) (λ e. absurd (h e))

  pub down-raises : NotUp new c → Raises low_preset underflow new c
  down-raises h = by-count new c (λ (n : ℕ). among low_preset underflow n ≡ true) refl (λ e. absurd (h e)) (λ e. (refl, λ l. refl))

  pub between-raises : Between new c → Raises low_preset high_preset new c
  between-raises h =
      by-count new c (λ (n : ℕ). among low_preset high_preset n ≡ true) refl (λ e. (refl, λ l. absurd (true≢false (sym l ∙ h.up e))))
      (λ e. (refl, λ l. absurd (true≢false (sym l ∙ h.down e))))

module _ (row : List ℕ) (c : Counter) where
  pub up-keeps : Two high_preset overflow c.desk → Along NotDown row c → flag (sample_all row c) UIL ≡ flag c UIL
  up-keeps t each = samples-keep high_preset overflow row c t (along-map up-raises row c each)

  pub down-keeps : Two low_preset underflow c.desk → Along NotUp row c → flag (sample_all row c) UIL ≡ flag c UIL
  down-keeps t each = samples-keep low_preset underflow row c t (along-map down-raises row c each)

  pub between-keeps : Two low_preset high_preset c.desk → Along Between row c → flag (sample_all row c) UIL ≡ flag c UIL
  between-keeps t each = samples-keep low_preset high_preset row c t (along-map between-raises row c each)
