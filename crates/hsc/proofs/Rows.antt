-- Rows copied side by side from the front: what stands before the end of the last copy is the rows in their order.
use mathlib.Core.Path.{◌≡◌, refl, sym, ap, ◌∙◌}
use mathlib.Core.List.{List, [], ◌++◌}
use Prim.Native.Nat.{ℕ, ◌+◌, ◌≤◌}
use native.Mathlib.Nat.{le_of_eq}
use native.Mathlib.Omega.{arith}
use lib.IntN.{ℤ}
use lib.ListN.{length, take}
use lib.Seq.{take_all}
use Rattle.word.specs.Part.{put}
use Rattle.word.proofs.Part.{length-put, take-put-end}
use Rattle.counter.specs.declared.state.Counter.{Counter}
use Rattle.hsc.specs.Fields.{settings_fields, stored_fields, shown_fields, fields_of}

-- the rows up to a copy, and the copy's own
beside : (done f g row : List ℤ) (at : ℕ) → take at f ≡ done → at + length row ≤ length f → g ≡ put f at row
    → (take (at + length row) g ≡ done ++ row) × (length g ≡ length f)
beside done f g row at before fits e =
    (rw (e, take-put-end f at row (omega arith), before), ap length e ∙ length-put f at row fits)

-- the four rows of a reading are all its numbers
pub filled : (v : Counter) (a b s d f g h k l : List ℤ) → length f ≡ 32
    → a ≡ settings_fields v.staged
    → b ≡ settings_fields v.active
    → s ≡ stored_fields v
    → d ≡ shown_fields v
    → g ≡ put f 0 a
    → h ≡ put g 9 b
    → k ≡ put h 18 s
    → l ≡ put k 26 d
    → l ≡ fields_of v
unfolding fields_of
filled v a b s d f g h k l long staged active stored shown first second third fourth =
    let one = beside [] f g (settings_fields v.staged) 0 refl (omega arith) (first ∙ ap (put f 0) staged) in
    let two = beside _ g h (settings_fields v.active) 9 one.0 (omega arith) (second ∙ ap (put g 9) active) in
    let three = beside _ h k (stored_fields v) 18 two.0 (omega arith) (third ∙ ap (put h 18) stored) in
    let four = beside _ k l (shown_fields v) 26 three.0 (omega arith) (fourth ∙ ap (put k 26) shown) in
    let whole : length l ≡ 32 = omega arith in
    sym (take_all 32 l (le_of_eq whole)) ∙ four.0
