-- Counting at the limits: one more than a number below another that fits, or one less than a number above it, fits too.
use mathlib.Core.Path.{◌≡◌}
use mathlib.Core.Bool.{false, true≢false}
use Prim.Native.Nat.{ℕ, zero, suc, ◌<◌, ◌^◌}
use native.Mathlib.Omega.{arith}
use borrow.Author.Tests.{leb-false}
use lib.IntN.{ℤ, pos, negsuc, suc_ℤ, pred_ℤ, ◌+ℤ◌, ◌-ℤ◌, +ℤ_one, -ℤ_one}
use lib.Signed.{le_z, mag}
use mir.Syntax.{Width}
use mir.Val.{SFits, hbits}

suc-mag : (a b : ℤ) (h : ℕ) → mag a < h → mag b < h → le_z b a ≡ false → mag (suc_ℤ a) < h
suc-mag (pos a) (pos b) h p q t = omega (arith, leb-false b a t)
suc-mag (pos a) (negsuc b) h p q t = absurd (true≢false t)
suc-mag (negsuc zero) b h p q t = p
suc-mag (negsuc (suc a)) b h p q t = omega arith

pred-mag : (a b : ℤ) (h : ℕ) → mag a < h → mag b < h → le_z a b ≡ false → mag (pred_ℤ a) < h
pred-mag (pos zero) b h p q t = p
pred-mag (pos (suc a)) b h p q t = omega arith
pred-mag (negsuc a) (pos b) h p q t = absurd (true≢false t)
pred-mag (negsuc a) (negsuc b) h p q t = omega (arith, leb-false b a t)

pub up-fits : {w : Width} {a b : ℤ} → SFits w a → SFits w b → le_z b a ≡ false → SFits w (a +ℤ pos 1)
up-fits {w} {a} {b} f g t = record { sfits = rw (+ℤ_one a) (suc-mag a b (2 ^ hbits w) f.sfits g.sfits t) }

pub down-fits : {w : Width} {a b : ℤ} → SFits w a → SFits w b → le_z a b ≡ false → SFits w (a -ℤ pos 1)
down-fits {w} {a} {b} f g t = record { sfits = rw (-ℤ_one a) (pred-mag a b (2 ^ hbits w) f.sfits g.sfits t) }
