-- What the end answers, by the phase and the bytes that came in it.
use mathlib.Core.Path.{◌≡◌, refl, ap}
use mathlib.Core.Bool.{cond}
use mathlib.Core.List.{List, [], ◌∷◌}
use Prim.Native.Nat.{ℕ, zero, suc, ◌<◌}
use native.Mathlib.Omega.{arith}
use lib.Dec.{eqb, eqb-zero-suc, eqb-suc-zero, eqb-suc-suc}
use lib.ListN.{length}
use Rattle.refusal.specs.Refusals.{Answer, refused, given, ◌and_then◌}
use Rattle.pieces.specs.Reading.{Reader, push, ends, pushes}
use Rattle.pieces.specs.Traces.{Format, Phase, counting, passing, broken, need, finish, shown, traces, verdict, ended}
use Rattle.pieces.specs.Claim.{answer}
use Rattle.pieces.proofs.Folds.{part-waits}
use Rattle.pieces.proofs.Feeds.{bare}

module _ {width : ℕ} (F : Format width) where
  -- a refusal stays
  pub broken-stays : (n p : ℕ) (bs : List ℕ) → pushes (traces F) (bare F (broken n p)) bs ≡ bare F (broken n p)
  unfolding pushes push ends need finish
  broken-stays n p [] = refl
  broken-stays n p (x ∷ xs) = broken-stays n p xs

  -- the end's answer after these bytes
  abbrev pub answered : Phase F → List ℕ → Answer (List ℕ)
  answered p bs = answer F (pushes (traces F) (bare F p) bs).phase

  pub broken-answers : (n p : ℕ) (bs : List ℕ) → answered (broken n p) bs ≡ refused n p
  unfolding verdict ended
  broken-answers n p bs = rw broken-stays

  pub passing-answers : (h : F.Head) (s : (F.system h).State) (k : ℕ) (bs : List ℕ)
      → answered (passing h s k) bs ≡ (cond (eqb (length bs) k) (given tt) (refused 4 0) and_then given ((F.system h).encode s))
  unfolding verdict ended shown pushes push ends need finish
  passing-answers h s zero [] = refl
  passing-answers h s (suc k) [] = rw eqb-zero-suc
  passing-answers h s zero (x ∷ xs) = rw eqb-suc-zero (broken-answers 4 0 xs)
  passing-answers h s (suc k) (x ∷ xs) = rw eqb-suc-suc (passing-answers h s k xs)

  -- an event that does not come whole
  pub counting-answers : (h : F.Head) (i : ℕ) (s : (F.system h).State) (bs : List ℕ) → length bs < width → answered (counting h i s) bs ≡ refused 4 0
  unfolding need verdict ended
  counting-answers h i s bs l =
      ap (λ (r : Reader (traces F)). answer F r.phase) (part-waits (traces F) (counting h i s) bs [] (omega arith))
