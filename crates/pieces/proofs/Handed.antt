-- For any format: where a call hands out something, the trace goes on, so a call that refuses hands out nothing.
use mathlib.Core.Path.{◌≡◌, refl}
use mathlib.Core.Bool.{true, false≢true, and-eq-true_iff}
use mathlib.Core.List.{List, [], ◌∷◌, ◌++◌}
use Prim.Native.Nat.{ℕ, zero, suc, ◌%◌}
use lib.Dec.{eqb, ltb}
use Rattle.word.proofs.Branches.{cond-cases}
use Rattle.refusal.specs.Refusals.{Answer, refused_in, given}
use Rattle.refusal.proofs.Answers.{refused-given}
use Rattle.pieces.specs.Reading.{Reader, Fed, fed, from, ends, push, due, feed}
use Rattle.pieces.specs.Traces.{Format, Phase, heading, counting, passing, broken, count, tail, counted, begun, accepted, finish, hands, traces}
use Rattle.pieces.specs.Traces.{verdict, ended}

module _ {width : ℕ} (F : Format width) where
  -- a header came, and nothing was refused
  abbrev pub Runs : Phase F → Type 0
  Runs heading = ⊥
  Runs (counting h i s) = Unit
  Runs (passing h s n) = Unit
  Runs (broken n p) = ⊥

  pub runs-passes : (p : Phase F) → Runs p → verdict F p ≡ given tt
  unfolding verdict
  runs-passes heading r = absurd r
  runs-passes (counting h i s) r = refl
  runs-passes (passing h s n) r = refl
  runs-passes (broken n p) r = absurd r

  counted-runs : (h : F.Head) (i : ℕ) (s : (F.system h).State) → Runs (counted F h i s)
  unfolding counted
  counted-runs h i s = cond-cases Runs (ltb i (count F h)) (counting h i s) (passing h s (tail F h)) (λ _. tt) (λ _. tt)

  begun-runs : (a : Answer F.Head) → accepted F a ≡ true → Runs (begun F a)
  unfolding accepted begun
  begun-runs (refused_in n t p) e = absurd (false≢true e)
  begun-runs (given h) e = counted-runs h 0 (F.start h)

  hands-runs : (p : Phase F) (e : List ℕ) → hands F p e ≡ true → Runs (finish F p e)
  unfolding hands finish
  hands-runs heading e q = begun-runs (F.opens e) q
  hands-runs (counting h i s) e q =
      let legal : (F.system h).legal e ≡ true = ((and-eq-true_iff ((F.system h).legal e) (eqb (suc i % (F.shape h).spacing) 0)).0 q).0 in
      rw legal (counted-runs h (suc i) ((F.system h).step s e))
  hands-runs (passing h s n) e q = absurd (false≢true q)
  hands-runs (broken n p) e q = absurd (false≢true q)

  due-runs : (r : Reader (traces F)) (x : ℕ) → due (traces F) r x ≡ true → Runs (push (traces F) r x).phase
  unfolding due push
  due-runs r x q =
      let e : List ℕ = r.got ++ (x ∷ []) in
      let both = (and-eq-true_iff (ends (traces F) r) (hands F r.phase e)).0 q in
      rw both.0 (hands-runs r.phase e both.1)

  pub feed-runs : (r : Reader (traces F)) (c : List ℕ) → (feed (traces F) r c).holds ≡ true → Runs (feed (traces F) r c).reader.phase
  unfolding feed
  feed-runs r [] q = absurd (false≢true q)
  feed-runs r (x ∷ xs) q =
      let next : Reader (traces F) = push (traces F) r x in
      cond-cases (λ (o : Fed (Reader (traces F))). o.holds ≡ true → Runs o.reader.phase) (due (traces F) r x) (fed next 1 true)
      (from 1 (feed (traces F) next xs))
      (λ e _. due-runs r x e)
      (λ e h. feed-runs next xs h)
      q

  -- where the end accepts, a snapshot is shown
  pub ended-runs : (p : Phase F) → verdict F (ended F p) ≡ given tt → Runs (ended F p)
  unfolding ended verdict
  ended-runs heading e = absurd (refused-given e)
  ended-runs (counting h i s) e = absurd (refused-given e)
  ended-runs (passing h s zero) e = tt
  ended-runs (passing h s (suc n)) e = absurd (refused-given e)
  ended-runs (broken n p) e = absurd (refused-given e)
