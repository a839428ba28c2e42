-- Text appended at the front of a buffer.
use Rattle.std.specs.Prelude.{◌≡◌, List, ◌++◌, ℕ, ◌+◌, length, take}

-- the text up to `at` in the old buffer, then the piece, is the text up to `next` in the new one, which is as long
pub record Appended (old : List ℕ) (at : ℕ) (piece new : List ℕ) (next : ℕ) : Type 0 where
  pub text : take next new ≡ take at old ++ piece
  pub place : next ≡ at + length piece
  pub same : length new ≡ length old
