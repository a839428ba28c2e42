-- The tally keeps the laws of a system: a remainder by 10 is a digit, one byte is read as it was written, and 0 is a digit.
use Rattle.std.specs.Prelude.{refl, [], ◌∷◌, ℕ, zero, suc, ◌+◌, ◌<◌}
use Rattle.std.proofs.Common.{lit<}
use Rattle.std.proofs.Math.Nat.{lt_trans, mod-lt}
use Rattle.std.proofs.lemmas.Bool.{ltb-true, lt-ltb}
use Rattle.word.specs.Part.{Bytes}
use Rattle.replay.specs.System.{Laws}
use Rattle.tally.specs.Tally.{digit_in, tally}

bytes-one : (s : ℕ) → s < 10 → Bytes (s ∷ [])
bytes-one s h zero = lt_trans h (lit< tt)
bytes-one s h (suc i) = lit< tt

pub laws : Laws tally
laws =
    record {
      some = lit< tt;
      step-good = λ s e good legal. mod-lt (s + digit_in e) (lit< tt);
      sized-encode = λ s good. record { whole = refl; bytes = bytes-one s good };
      formed-encode = λ s good. lt-ltb s 10 good;
      decode-encode = λ s good. refl;
      decode-good = λ b sized formed. ltb-true (digit_in b) 10 formed;
      start-good = λ b sized starts. lit< tt;
      start-again = λ b sized starts. refl;
      starts-again = λ b sized starts. refl;
    }
