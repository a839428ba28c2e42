-- Digits: a number in the fewest decimal digits is the definition's text, and one that w hex digits hold takes w.
use mathlib.Core.Path.{◌≡◌, refl, ap, ◌∙◌}
use mathlib.Core.Bool.{Bool, true, false, cond}
use mathlib.Core.List.{List, [], ◌∷◌, ◌++◌}
use Prim.Native.Nat.{ℕ, zero, suc, ◌-◌, ◌*◌, ◌/◌, ◌%◌, ◌^◌, ◌≤◌, ◌<◌}
use native.Mathlib.Nat.{pow-suc, mod-eq_of_lt, le_trans, lt_trans, le_antisymm, le_refl, lt_of_lt_of_le, pow-le-pow_right, not-le_of_lt}
use native.Mathlib.Omega.{arith}
use borrow.Author.Tests.{lt-ltb, le-ltb, ltb-true, ltb-false}
use lib.Dec.{ltb, lit<, lit≤}
use lib.ListN.{length, length-append}
use Rattle.io.specs.Digits.{hex_digit_ascii, last_digits, IsDigitCount}
use Rattle.report.specs.Line.{decimal_in, decimal}

pub length-digits : (b k n : ℕ) → length (last_digits b k n) ≡ k
length-digits b zero n = refl
length-digits b (suc k) n = length-append (last_digits b k (n / b)) (hex_digit_ascii (n % b) ∷ []) ∙ rw (length-digits b k (n / b)) (omega arith)

-- a number that w digits hold takes w at most
pub fewest-le : (b least n k w : ℕ) → 0 < b → least ≤ w → n < b ^ w → IsDigitCount b least n k → k ≤ w
fewest-le b least n k w pos l h f = go (ltb w k) refl
  where
    go : (t : Bool) → ltb w k ≡ t → k ≤ w
    go true e =
        let more : w < k = ltb-true w k e in
        absurd (not-le_of_lt (lt_of_lt_of_le h (pow-le-pow_right pos {i = w} {j = k - 1} (omega arith))) (f.2 (omega arith)))
    go false e = ltb-false w k e

-- ---- decimal

decimal-more : (j k n : ℕ) → 1 ≤ k → k ≤ j → n < 10 ^ k → (1 < k → 10 ^ (k - 1) ≤ n) → last_digits 10 k n ≡ decimal_in j n
unfolding decimal_in
decimal-more j zero n p q h f = absurd (omega arith)
decimal-more zero (suc k) n p q h f = absurd (omega arith)
decimal-more (suc j) (suc zero) n p q h f =
    let small : n < 10 = h in
    rw (mod-eq_of_lt small, lt-ltb n 10 small)
decimal-more (suc j) (suc (suc k)) n p q h f =
    let below : n < 10 ^ suc k * 10 = rw pow-suc at h in
    let rest : suc (suc k) - 1 ≡ suc k = omega arith in
    let from : 10 ^ suc k ≤ n = rw rest at (f (omega arith)) in
    let tens : 10 ^ k * 10 ≤ n = rw pow-suc at from in
    let ten : 10 ≤ n = le_trans (pow-le-pow_right (lit< tt) {i = 1} {j = suc k} (omega arith)) from in
    let last : suc k - 1 ≡ k = omega arith in
    let more : 10 ^ (suc k - 1) ≤ n / 10 = rw last (omega arith) in
    let front : last_digits 10 (suc k) (n / 10) ≡ decimal_in j (n / 10) = decimal-more j (suc k) (n / 10) (omega arith) (omega arith) (omega arith) (λ o. more) in
    rw (le-ltb n 10 ten) (ap (λ (t : List ℕ). t ++ (hex_digit_ascii (n % 10) ∷ [])) front)

pub decimal-fewest : (n k : ℕ) → n < 2 ^ 64 → IsDigitCount 10 1 n k → last_digits 10 k n ≡ decimal n
decimal-fewest n k h f =
    decimal-more 20 k n f.0 (fewest-le 10 1 n k 20 (lit< tt) (lit≤ tt) (lt_trans h (lit< tt)) f) f.1 f.2

pub length-decimal : (j n : ℕ) → length (decimal_in j n) ≤ j
unfolding decimal_in
length-decimal zero n = lit≤ tt
length-decimal (suc j) n = go (length-decimal j (n / 10)) (ltb n 10)
  where
    go : length (decimal_in j (n / 10)) ≤ j → (b : Bool) → length (cond b (hex_digit_ascii n ∷ []) (decimal_in j (n / 10) ++ (hex_digit_ascii (n % 10) ∷ []))) ≤ suc j
    go h true = omega arith
    go h false = rw (length-append (decimal_in j (n / 10)) (hex_digit_ascii (n % 10) ∷ [])) (omega arith)

-- ---- hex

pub hex-fewest : (w n k : ℕ) → n < 16 ^ w → IsDigitCount 16 w n k → k ≡ w
hex-fewest w n k h f = le_antisymm (fewest-le 16 w n k w (lit< tt) (le_refl w) h f) f.0
