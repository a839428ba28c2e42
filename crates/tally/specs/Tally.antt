-- The tally as a system: its state is a digit, and an event is a digit that is added. Each takes one byte.
use Rattle.std.specs.Prelude.{true, List, [], ◌∷◌, ℕ, ◌+◌, ◌%◌, ◌<◌, ltb, get_or}
use Rattle.replay.specs.System.{System}

-- the digit after the digit b is added, for any two bytes
abbrev pub added : ℕ → ℕ → ℕ
added s b = (s + b) % 10

-- the digit in the one byte of an event or a snapshot
abbrev pub digit_in : List ℕ → ℕ
digit_in bytes = get_or bytes 0 0

-- snapshot 0 is the digit 0, whatever byte stands there; while events are taken the state is one byte, with nothing beside it
abbrev pub tally : System 1
tally =
    record {
      State = ℕ;
      step = λ s e. added s (digit_in e);
      Good = λ s. s < 10;
      legal = λ e. ltb (digit_in e) 10;
      encode = λ s. s ∷ [];
      decode = digit_in;
      size = 1;
      formed = λ b. ltb (digit_in b) 10;
      start = λ b. 0;
      starts = λ b. true;
      beside = 0;
      state_in = λ state beside. digit_in state;
    }
