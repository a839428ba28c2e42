-- What is claimed of the same cause waiting twice (document 02, request 7): each statement whole, proved by naming the law that stands in
-- another crate's `proofs/`. `raise` is what a cause does that a sample raises, and `interrupt` what it does where FE, UIE and its mask are 1.
use mathlib.Core.Path.{◌≡◌, refl}
use mathlib.Core.Bool.{true, false, not, ◌&&◌, ◌||◌}
use mathlib.Core.List.{List, Mem}
use Prim.Native.Nat.{ℕ}
use lib.Dec.{eqb, leb, ltb}
use Rattle.accumulator.specs.Causes.{low_preset, high_preset, underflow, overflow}
use Rattle.counter.specs.declared.state.Counter.{Counter}
use Rattle.counter.specs.Desk.{first, second, waits, waiting}
use Rattle.counter.specs.Parts.{UIL, flag, with_desk}
use Rattle.counter.specs.Interrupts.{enabled, interrupt, with_outputs, raise}
use Rattle.counter.specs.Rows.{among, loses, raise_all, lost_in, sample_all, Along, Raises, NotDown, NotUp, Between}
use Rattle.counter.specs.WellFormed.{causes_formed, well_formed, Good}
use Rattle.snapshot.specs.Snapshots.{decode}
use Rattle.snapshot.specs.FormedBytes.{formed}
use Rattle.counter.proofs as counter
use Rattle.snapshot.proofs as snapshot

-- ---- a cause that waits already

module _ (cause : ℕ) (c : Counter) where
  -- it changes nothing at all: neither who waits nor a flag
  pub waits-already : waits cause (first c.desk) (second c.desk) ≡ true → interrupt cause c ≡ c
  waits-already = counter.Merging.interrupt-waits cause c

  -- so, raised, it puts its outputs, and that is all
  pub raised-again : waits cause (first c.desk) (second c.desk) ≡ true → raise cause c ≡ with_outputs cause c
  raised-again = counter.Merging.raise-waits cause c

  -- where one runs, posting it twice is posting it once
  pub posted-twice : Good c → eqb c.desk.running 0 ≡ false → interrupt cause (interrupt cause c) ≡ interrupt cause c
  posted-twice good = counter.Merging.interrupt-twice cause c (counter.Changes.good-well c good)

-- ---- a cause that only runs

-- it waits too, if there is room
pub runs-and-waits : (c : Counter) → eqb c.desk.running 0 ≡ false → waits c.desk.running (first c.desk) (second c.desk) ≡ false
    → ltb c.desk.queued 2 ≡ true → interrupt c.desk.running c ≡ with_desk (waiting c.desk.running c.desk) c
runs-and-waits c runs only room = counter.Merging.interrupt-room c.desk.running c only runs room

-- ---- a cause that is lost

module _ (cause : ℕ) (c : Counter) where
  -- one runs, two wait, and it is neither of those two
  pub loses-when : loses cause c.desk ≡ (not (eqb c.desk.running 0) && not (ltb c.desk.queued 2) && not (eqb (first c.desk) cause || eqb (second c.desk) cause))
  loses-when = refl

  -- exactly then UIL is set; otherwise it stays
  pub interrupt-uil : flag (interrupt cause c) UIL ≡ (flag c UIL || loses cause c.desk)
  interrupt-uil = counter.Merging.interrupt-uil cause c

  -- FE, UIE and the mask are asked before: a cause that is dropped is not lost
  pub raise-uil : flag (raise cause c) UIL ≡ (flag c UIL || enabled c.flags cause && loses cause c.desk)
  raise-uil = counter.Merging.raise-uil cause c

-- ---- rows of causes

-- a row sets UIL exactly if one of it is lost
pub row-uil : (row : List ℕ) (c : Counter) → flag (raise_all row c) UIL ≡ (flag c UIL || lost_in row c)
row-uil = counter.Merging.raise-all-uil

-- where those that wait are among two causes
module _ (a b : ℕ) (c : Counter) (good : Good c) (f : among a b (first c.desk) ≡ true) (s : among a b (second c.desk) ≡ true) where
  -- and each that comes is one of the two, none is lost, however many come
  pub none-lost : (row : List ℕ) → ((cause : ℕ) → Mem cause row → among a b cause ≡ true) → lost_in row c ≡ false
  none-lost row = counter.Rows.none-lost a b row c (counter.Rows.good-two a b c good f s)

  -- so too for the causes that samples raise: UIL is as it was, however many samples come
  pub samples-keep : (row : List ℕ) → Along (Raises a b) row c → flag (sample_all row c) UIL ≡ flag c UIL
  samples-keep row = counter.Rows.samples-keep a b row c (counter.Rows.good-two a b c good f s)

-- ---- of which are instances: counting in one direction, and rocking over both presets

-- each raises two causes only
module _ (new : ℕ) (c : Counter) where
  pub up-raises : NotDown new c → Raises high_preset overflow new c
  up-raises = counter.Rows.up-raises new c

  pub down-raises : NotUp new c → Raises low_preset underflow new c
  down-raises = counter.Rows.down-raises new c

  pub between-raises : Between new c → Raises low_preset high_preset new c
  between-raises = counter.Rows.between-raises new c

module _ (row : List ℕ) (c : Counter) (good : Good c) where
  -- no sample counts down, and none waits but causes 2 and 4
  pub counting-up : among high_preset overflow (first c.desk) ≡ true → among high_preset overflow (second c.desk) ≡ true
      → Along NotDown row c → flag (sample_all row c) UIL ≡ flag c UIL
  counting-up f s = counter.Rows.up-keeps row c (counter.Rows.good-two high_preset overflow c good f s)

  -- no sample counts up, and none waits but causes 1 and 3
  pub counting-down : among low_preset underflow (first c.desk) ≡ true → among low_preset underflow (second c.desk) ≡ true
      → Along NotUp row c → flag (sample_all row c) UIL ≡ flag c UIL
  counting-down f s = counter.Rows.down-keeps row c (counter.Rows.good-two low_preset underflow c good f s)

  -- samples count up and down between the limits, and none waits but causes 1 and 2
  pub rocking : among low_preset high_preset (first c.desk) ≡ true → among low_preset high_preset (second c.desk) ≡ true
      → Along Between row c → flag (sample_all row c) UIL ≡ flag c UIL
  rocking f s = counter.Rows.between-keeps row c (counter.Rows.good-two low_preset high_preset c good f s)

-- ---- well formed

-- the last test is the request's
pub causes-formed : (most running first second : ℕ)
    → causes_formed most running first second
    ≡ (leb running most
    && leb first most
    && leb second most
    && (eqb second 0 || not (eqb first 0))
    && (eqb first 0 || not (eqb running 0))
    && (eqb second 0 || not (eqb first second)))
causes-formed most running first second = refl

-- so two that wait differ, and a snapshot or a state in which two equal causes wait is not well formed
pub waiting-differ : (c : Counter) → well_formed c ≡ true → eqb (second c.desk) 0 ≡ false → first c.desk ≡ second c.desk → ⊥
waiting-differ = counter.Merging.waiting-differ

pub equal-formed : (c : Counter) → eqb (second c.desk) 0 ≡ false → first c.desk ≡ second c.desk → well_formed c ≡ false
equal-formed = counter.Merging.equal-formed

pub formed-equal : (b : List ℕ) → eqb (second (decode b).desk) 0 ≡ false → first (decode b).desk ≡ second (decode b).desk → formed b ≡ false
formed-equal = snapshot.Rules.formed-equal
