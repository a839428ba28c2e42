-- Laws of the masks, once over the width: bit m of a word with bit n set or cleared, and of a merge. Bits of `bit_and` and `bit_or`
-- go by halves: bit n of a word is the parity of its quotient by 2 ^ n.
use mathlib.Core.Path.{◌≡◌, refl, sym, ap, ◌∙◌}
use mathlib.Core.Bool.{Bool, true, false, cond, not, ◌&&◌, ◌||◌, and-true, false≢true, true≢false}
use Prim.Native.Nat.{ℕ, zero, suc, ◌+◌, ◌-◌, ◌*◌, ◌/◌, ◌%◌, ◌^◌, ◌<◌, ◌≤◌, min, max}
use native.Mathlib.Nat.{one-mul, mul_comm, mod-eq_of_lt, mod-lt, mul-add-mod_self_right, pow-suc, sub-zero}
use native.Mathlib.Nat.{div-div-eq-div-mul, div-one, zero-div, div-eq_of_lt, le_of_suc-le-suc, lt_of_le_of_lt, lt_of_lt_of_le}
use native.Mathlib.Omega.{arith}
use borrow.Author.Tests.{eqb-true, eqb-false}
use lib.Bits.{bit_and, bit_or, and_shr, or_shr, and_step, or_step, and_le_l, or_lt, and_mask}
use lib.Dec.{eqb, eqb-suc-suc, eqb-zero-suc, eqb-suc-zero, lit<}
use lib.Pow.{pow-lt, pow_mono, pow_pos}
use Rattle.word.specs.Masks.{bit, set_bit, clear_bit, merge}

-- ---- one bit

-- 1 shifted by n places within k bits
pub one-shifted : (k n : ℕ) → n < k → 1 * 2 ^ n % 2 ^ k ≡ 2 ^ n
one-shifted k n h = rw (one-mul (2 ^ n)) (mod-eq_of_lt (pow-lt h))

bit-zero : (w : ℕ) → bit w 0 ≡ eqb (w % 2) 1
unfolding bit
bit-zero w = rw div-one

bit-suc : (w n : ℕ) → bit w (suc n) ≡ bit (w / 2) n
unfolding bit
bit-suc w n = rw (pow-suc, mul_comm (2 ^ n) 2, ← div-div-eq-div-mul w 2 (2 ^ n))

bit-of-zero : (n : ℕ) → bit 0 n ≡ false
unfolding bit
bit-of-zero n = rw (zero-div (2 ^ n))

-- the only bit of 2 ^ n is bit n
bit-power : (n m : ℕ) → bit (2 ^ n) m ≡ eqb n m
bit-power zero zero = bit-zero 1
bit-power zero (suc m) = bit-suc 1 m ∙ bit-of-zero m ∙ sym (eqb-zero-suc m)
bit-power (suc n) zero =
    let even : 2 ^ suc n % 2 ≡ 0 = rw pow-suc (omega arith) in
    bit-zero (2 ^ suc n) ∙ ap (λ (r : ℕ). eqb r 1) even ∙ sym (eqb-suc-zero n)
bit-power (suc n) (suc m) =
    let half : 2 ^ suc n / 2 ≡ 2 ^ n = rw pow-suc (omega arith) in
    bit-suc (2 ^ suc n) m ∙ ap (λ (w : ℕ). bit w m) half ∙ bit-power n m ∙ sym (eqb-suc-suc n m)

-- two parities, case by case
parities : (P : ℕ → ℕ → Type 0) → P 0 0 → P 0 1 → P 1 0 → P 1 1 → (p q : ℕ) → p < 2 → q < 2 → P p q
parities P a b c d zero zero h k = a
parities P a b c d zero (suc zero) h k = b
parities P a b c d (suc zero) zero h k = c
parities P a b c d (suc zero) (suc zero) h k = d
parities P a b c d zero (suc (suc q)) h k = absurd (omega arith)
parities P a b c d (suc zero) (suc (suc q)) h k = absurd (omega arith)
parities P a b c d (suc (suc p)) q h k = absurd (omega arith)

-- words of k bits with the same bits are equal
pub word-ext : (k v w : ℕ) → v < 2 ^ k → w < 2 ^ k → ((n : ℕ) → n < k → bit v n ≡ bit w n) → v ≡ w
word-ext zero v w a b same = omega arith
word-ext (suc k) v w a b same =
    let a2 : v < 2 ^ k * 2 = rw pow-suc at a in
    let b2 : w < 2 ^ k * 2 = rw pow-suc at b in
    let halves : v / 2 ≡ w / 2 =
    word-ext k (v / 2) (w / 2) (omega arith) (omega arith) (λ n h. sym (bit-suc v n) ∙ same (suc n) (omega (arith, h)) ∙ bit-suc w n) in
    let lowest : eqb (v % 2) 1 ≡ eqb (w % 2) 1 = sym (bit-zero v) ∙ same 0 (omega arith) ∙ bit-zero w in
    let odd : v % 2 ≡ w % 2 =
    parities (λ p q. eqb p 1 ≡ eqb q 1 → p ≡ q) (λ e. refl) (λ e. absurd (false≢true e)) (λ e. absurd (true≢false e)) (λ e. refl) (v % 2) (w % 2)
    (mod-lt v (lit< tt)) (mod-lt w (lit< tt)) lowest in
    omega arith

-- ---- and, or, not

-- a bitwise operation that acts on parities by f acts on each bit by b
module _ (op f : ℕ → ℕ → ℕ) (b : Bool → Bool → Bool)
    (shr : (x y k : ℕ) → op x y / 2 ^ k ≡ op (x / 2 ^ k) (y / 2 ^ k))
    (step : (x y : ℕ) → op x y ≡ op (x / 2) (y / 2) * 2 + f (x % 2) (y % 2))
    (parity : (p q : ℕ) → p < 2 → q < 2 → eqb (f p q % 2) 1 ≡ b (eqb p 1) (eqb q 1)) where
  bit-op : (x y n : ℕ) → bit (op x y) n ≡ b (bit x n) (bit y n)
  unfolding bit
  bit-op x y n =
      let u : ℕ = x / 2 ^ n in
      let v : ℕ = y / 2 ^ n in
      ap (λ (r : ℕ). eqb (r % 2) 1) (shr x y n ∙ step u v)
      ∙ ap (λ (r : ℕ). eqb r 1) (mul-add-mod_self_right (op (u / 2) (v / 2)) 2 (f (u % 2) (v % 2)))
      ∙ parity (u % 2) (v % 2) (mod-lt u (lit< tt)) (mod-lt v (lit< tt))

pub bit-and : (x y n : ℕ) → bit (bit_and x y) n ≡ (bit x n && bit y n)
bit-and = bit-op bit_and min ◌&&◌ and_shr and_step (parities (λ p q. eqb (min p q % 2) 1 ≡ (eqb p 1 && eqb q 1)) refl refl refl refl)

pub bit-or : (x y n : ℕ) → bit (bit_or x y) n ≡ (bit x n || bit y n)
bit-or = bit-op bit_or max ◌||◌ or_shr or_step (parities (λ p q. eqb (max p q % 2) 1 ≡ (eqb p 1 || eqb q 1)) refl refl refl refl)

parity-not : (p : ℕ) → p < 2 → eqb (1 - p) 1 ≡ not (eqb p 1)
parity-not zero h = refl
parity-not (suc zero) h = refl
parity-not (suc (suc p)) h = absurd (omega arith)

-- of k bits: every bit of the complement is the other one
pub bit-not : (k x n : ℕ) → x < 2 ^ k → n < k → bit (2 ^ k - 1 - x) n ≡ not (bit x n)
bit-not zero x n h b = absurd (omega arith)
bit-not (suc k) x zero h b =
    let g : x < 2 ^ k * 2 = rw pow-suc at h in
    let low : (2 ^ suc k - 1 - x) % 2 ≡ 1 - x % 2 = rw pow-suc (omega arith) in
    bit-zero (2 ^ suc k - 1 - x)
    ∙ ap (λ (r : ℕ). eqb r 1) low
    ∙ parity-not (x % 2) (mod-lt x (lit< tt))
    ∙ ap not (sym (bit-zero x))
bit-not (suc k) x (suc n) h b =
    let g : x < 2 ^ k * 2 = rw pow-suc at h in
    let half : (2 ^ suc k - 1 - x) / 2 ≡ 2 ^ k - 1 - x / 2 = rw pow-suc (omega arith) in
    let low : x / 2 < 2 ^ k = omega arith in
    bit-suc (2 ^ suc k - 1 - x) n
    ∙ ap (λ (w : ℕ). bit w n) half
    ∙ bit-not k (x / 2) n low (le_of_suc-le-suc b)
    ∙ ap not (sym (bit-suc x n))

-- ---- the low bits of a word

-- a number below 2 ^ k has no bit from k on
pub bit-above : (w k n : ℕ) → w < 2 ^ k → k ≤ n → bit w n ≡ false
unfolding bit
bit-above w k n h b = rw (div-eq_of_lt (lt_of_lt_of_le h (pow_mono b)))

-- one of k + 1 bits whose bit k is 0 is below 2 ^ k
pub bit-top : (w k : ℕ) → w < 2 ^ suc k → bit w k ≡ false → w < 2 ^ k
bit-top w zero h b =
    let low : (w % 2 ≡ 1) → ⊥ = eqb-false (w % 2) 1 (sym (bit-zero w) ∙ b) in
    omega (arith, h, low)
bit-top w (suc k) h b =
    let g : w < 2 ^ suc k * 2 = rw pow-suc at h in
    let half : w / 2 < 2 ^ k = bit-top (w / 2) k (omega arith) (sym (bit-suc w k) ∙ b) in
    rw pow-suc (omega arith)

-- the remainder by 2 ^ k has the bits below k
pub bit-mod : (w k n : ℕ) → n < k → bit (w % 2 ^ k) n ≡ bit w n
bit-mod w k n h =
    let ones : bit (2 ^ k - 1) n ≡ true = ap (λ (x : ℕ). bit x n) (sym (sub-zero (2 ^ k - 1))) ∙ bit-not k 0 n (pow_pos k) h ∙ ap not (bit-of-zero n) in
    ap (λ (x : ℕ). bit x n) (sym (and_mask w k)) ∙ bit-and w (2 ^ k - 1) n ∙ rw ones (and-true (bit w n))

-- ---- setting and clearing a bit, and merging

-- setting bit n changes bit n alone
pub bit-set_bit : (w n m : ℕ) → bit (set_bit w n) m ≡ cond (eqb n m) true (bit w m)
unfolding set_bit
bit-set_bit w n m = bit-or w (2 ^ n) m ∙ ap (λ (c : Bool). bit w m || c) (bit-power n m) ∙ either (bit w m) (eqb n m)
  where
    either : (a c : Bool) → (a || c) ≡ cond c true a
    either true true = refl
    either true false = refl
    either false true = refl
    either false false = refl

-- clearing bit n changes bit n alone
pub bit-clear_bit : (k w n m : ℕ) → n < k → m < k → bit (clear_bit k w n) m ≡ cond (eqb n m) false (bit w m)
unfolding clear_bit
bit-clear_bit k w n m h b =
    bit-and w (2 ^ k - 1 - 2 ^ n) m
    ∙ ap (λ (c : Bool). bit w m && c) (bit-not k (2 ^ n) m (pow-lt h) b ∙ ap not (bit-power n m))
    ∙ both (bit w m) (eqb n m)
  where
    both : (a c : Bool) → (a && not c) ≡ cond c false a
    both true true = refl
    both true false = refl
    both false true = refl
    both false false = refl

-- bit n of a merge is new's where the mask has it, and old's where not
pub bit-merge : (k mask new old n : ℕ) → mask < 2 ^ k → n < k → bit (merge k mask new old) n ≡ cond (bit mask n) (bit new n) (bit old n)
unfolding merge
bit-merge k mask new old n h b =
    bit-or (bit_and new mask) (bit_and old (2 ^ k - 1 - mask)) n
    ∙ cc (bit-and new mask n, bit-and old (2 ^ k - 1 - mask) n, bit-not k mask n h b)
    ∙ pick (bit mask n) (bit new n) (bit old n)
  where
    pick : (c a d : Bool) → (a && c || d && not c) ≡ cond c a d
    pick true true true = refl
    pick true true false = refl
    pick true false true = refl
    pick true false false = refl
    pick false true true = refl
    pick false true false = refl
    pick false false true = refl
    pick false false false = refl

-- ---- what a word stays below

pub set_bit-lt : (k w n : ℕ) → w < 2 ^ k → n < k → set_bit w n < 2 ^ k
unfolding set_bit
set_bit-lt k w n h b = or_lt k w (2 ^ n) h (pow-lt b)

pub clear_bit-le : (k w n : ℕ) → clear_bit k w n ≤ w
unfolding clear_bit
clear_bit-le k w n = and_le_l w (2 ^ k - 1 - 2 ^ n)

pub merge-lt : (j k mask new old : ℕ) → new < 2 ^ j → old < 2 ^ j → merge k mask new old < 2 ^ j
unfolding merge
merge-lt j k mask new old h b =
    or_lt j (bit_and new mask) (bit_and old (2 ^ k - 1 - mask)) (lt_of_le_of_lt (and_le_l new mask) h)
    (lt_of_le_of_lt (and_le_l old (2 ^ k - 1 - mask)) b)

-- ---- setting a bit that is 1 already

pub set_bit-on : (k w n : ℕ) → w < 2 ^ k → n < k → bit w n ≡ true → set_bit w n ≡ w
set_bit-on k w n h b on = word-ext k (set_bit w n) w (set_bit-lt k w n h b) h (λ m l. bit-set_bit w n m ∙ go m (eqb n m) refl)
  where
    go : (m : ℕ) (e : Bool) → eqb n m ≡ e → cond e true (bit w m) ≡ bit w m
    go m true e = sym on ∙ ap (bit w) (eqb-true n m e)
    go m false e = refl
