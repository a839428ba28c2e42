-- Document 01, "The office program": the line of a replay, and that of a refusal, in ASCII.
use Rattle.std.specs.Prelude.{cond, List, [], ◌∷◌, ◌++◌, ℕ, zero, suc, ◌/◌, ◌%◌, ltb, ℤ, pos, negsuc}
use Rattle.io.specs.Digits.{hex_digit_ascii, last_digits}

-- at most k decimal digits of n, with no zero in front
unfoldable pub decimal_in : ℕ → ℕ → List ℕ
decimal_in zero n = []
decimal_in (suc k) n = cond (ltb n 10) (hex_digit_ascii n ∷ []) (decimal_in k (n / 10) ++ (hex_digit_ascii (n % 10) ∷ []))

-- a number below 10 ^ 20 in decimal
abbrev pub decimal : ℕ → List ℕ
decimal = decimal_in 20

-- a signed number: a minus sign (45) before its size
unfoldable pub signed_decimal : ℤ → List ℕ
signed_decimal (pos n) = decimal n
signed_decimal (negsuc n) = 45 ∷ decimal (suc n)

-- lower-case hex, k digits
abbrev pub hexadecimal : ℕ → ℕ → List ℕ
hexadecimal k n = last_digits 16 k n

-- the words between the numbers, each with its blanks
abbrev pub events_word : List ℕ
events_word = 101 ∷ 118 ∷ 101 ∷ 110 ∷ 116 ∷ 115 ∷ 32 ∷ []

abbrev pub snapshots_word : List ℕ
snapshots_word = 32 ∷ 115 ∷ 110 ∷ 97 ∷ 112 ∷ 115 ∷ 104 ∷ 111 ∷ 116 ∷ 115 ∷ 32 ∷ []

abbrev pub acc_word : List ℕ
acc_word = 32 ∷ 97 ∷ 99 ∷ 99 ∷ 32 ∷ []

abbrev pub out_word : List ℕ
out_word = 32 ∷ 111 ∷ 117 ∷ 116 ∷ 32 ∷ []

abbrev pub er_word : List ℕ
er_word = 32 ∷ 101 ∷ 114 ∷ 32 ∷ []

abbrev pub flags_word : List ℕ
flags_word = 32 ∷ 102 ∷ 108 ∷ 97 ∷ 103 ∷ 115 ∷ 32 ∷ []

abbrev pub refused_word : List ℕ
refused_word = 114 ∷ 101 ∷ 102 ∷ 117 ∷ 115 ∷ 101 ∷ 100 ∷ 32 ∷ []

abbrev pub at_word : List ℕ
at_word = 32 ∷ 97 ∷ 116 ∷ 32 ∷ []

abbrev pub line_end : List ℕ
line_end = 10 ∷ []

-- `events 2 snapshots 3 acc 7 out 0003 er 0 flags 00000780`
unfoldable pub replay_line : ℕ → ℕ → ℤ → ℕ → ℕ → ℕ → List ℕ
replay_line events snapshots acc out er flags =
    (events_word ++ decimal events)
    ++ (snapshots_word ++ decimal snapshots)
    ++ (acc_word ++ signed_decimal acc)
    ++ (out_word ++ hexadecimal 4 out)
    ++ (er_word ++ decimal er)
    ++ (flags_word ++ hexadecimal 8 flags)
    ++ line_end

-- `refused 4 at 0`
unfoldable pub refusal_line : ℕ → ℕ → List ℕ
refusal_line number place = (refused_word ++ decimal number) ++ (at_word ++ decimal place) ++ line_end
