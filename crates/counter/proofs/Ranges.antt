-- The tests of a range of numbers, from orders.
use mathlib.Core.Path.{◌≡◌}
use mathlib.Core.Bool.{true, false}
use Prim.Native.Nat.{ℕ, ◌≤◌, ◌<◌}
use borrow.Author.Tests.{le-leb, lt-leb}
use mathlib.Core.Bool.{and-false}
use lib.Dec.{leb}
use Rattle.counter.specs.Events.{in_range}

pub inside : (a b n : ℕ) → a ≤ n → n ≤ b → in_range a b n ≡ true
inside a b n h k = rw (le-leb a n h, le-leb n b k)

pub under : (a b n : ℕ) → n < a → in_range a b n ≡ false
under a b n h = rw (lt-leb a n h)

pub over : (a b n : ℕ) → b < n → in_range a b n ≡ false
over a b n h = rw (lt-leb n b h) (and-false (leb a n))
