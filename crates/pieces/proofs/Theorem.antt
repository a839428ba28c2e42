-- What a user of a reader in pieces asks for. Each follows from the laws in a line or two.
use mathlib.Core.Path.{◌≡◌, refl, sym, ap, ap₂, ◌∙◌}
use mathlib.Core.Bool.{true, false}
use mathlib.Core.List.{List, [], ◌++◌}
use Prim.Native.Nat.{ℕ, zero, suc, ◌<◌}
use native.Mathlib.Omega.{arith}
use lib.ListN.{length, length-append}
use Rattle.refusal.specs.Refusals.{Answer, refused_in, given}
use Rattle.refusal.proofs.Answers.{refused-given}
use Rattle.pieces.specs.Reading.{Reader, fed, from, reader, pushes, handed, feed}
use Rattle.pieces.specs.Receiving.{Received, received, join}
use Rattle.pieces.specs.Traces.{Format, Phase, heading, counting, passing, broken, counted, begun, accepted, need, finish, hands, traces}
use Rattle.pieces.specs.Traces.{fresh, verdict, ended}
use Rattle.pieces.specs.Claim.{Claim, answer, whole}
use Rattle.pieces.proofs.Feeds.{bare, feed-waits, feed-stops, feed-skips, broken-feeds}
use Rattle.pieces.proofs.Receiving.{drive-join, cuttings}
use Rattle.pieces.proofs.Outcome.{answer-outcome}
use Rattle.pieces.proofs.Valid.{handed-all, answer-final}

-- ---- every image, in every cutting

module _ {width : ℕ} (F : Format width) (some : 0 < F.size) (wide : 0 < width) (header : (h : F.Head) → (F.shape h).header ≡ F.size)
    (image : List ℕ) (chunks : List (List ℕ)) (e : join chunks ≡ image) where
  all : whole F chunks ≡ received (pushes (traces F) (fresh F) image) (handed (traces F) (fresh F) image)
  all =
      drive-join (traces F) (fresh F) chunks
      ∙ ap (λ (l : List ℕ). received (pushes (traces F) (fresh F) l) (handed (traces F) (fresh F) l)) e

  pub claim : Claim F image chunks
  claim =
      record {
        valid = λ h fits L r. (
          ap (λ (o : Received (Reader (traces F))). o.out) all ∙ handed-all F some wide h image fits L r,
          ap (λ (o : Received (Reader (traces F))). answer F o.reader.phase) all ∙ answer-final F some wide h image fits L r,
        );
        every = ap (λ (o : Received (Reader (traces F))). answer F o.reader.phase) all ∙ answer-outcome F some wide header image;
        cuttings = λ others q. cuttings (traces F) (fresh F) others chunks q;
      }

-- ---- the header

module _ {width : ℕ} (F : Format width) (some : 0 < F.size) where
  -- before its last byte nothing is told
  pub header-waits : (bs : List ℕ) → length bs < F.size → feed (traces F) (fresh F) bs ≡ fed (reader (traces F) heading bs) (length bs) false
  unfolding need
  header-waits bs l = feed-waits (traces F) heading bs [] (omega arith)

  module _ (e rest : List ℕ) (whole : length e ≡ F.size) where
    -- with it snapshot 0 is due
    pub header-hands : (h : F.Head) → F.opens e ≡ given h
        → feed (traces F) (fresh F) (e ++ rest) ≡ fed (bare F (counted F h 0 (F.start h))) F.size true
    unfolding need finish hands begun accepted
    header-hands h o =
        feed-stops (traces F) heading e [] rest (omega arith) (omega arith) (ap (accepted F) o)
        ∙ ap₂ (λ (a : Answer F.Head) (n : ℕ). fed (bare F (begun F a)) n true) o whole

    -- or the header is refused
    pub header-refuses : (n t p : ℕ) → F.opens e ≡ refused_in n t p
        → feed (traces F) (fresh F) (e ++ rest) ≡ fed (bare F (broken n p)) (length (e ++ rest)) false
    unfolding need finish hands begun accepted
    header-refuses n t p o =
        feed-skips (traces F) heading e [] rest (omega arith) (omega arith) (ap (accepted F) o)
        ∙ ap (λ (a : Answer F.Head). from (length e) (feed (traces F) (bare F (begun F a)) rest)) o
        ∙ ap (from (length e)) (broken-feeds F n p rest)
        ∙ ap (λ (m : ℕ). fed (bare F (broken n p)) m false) (sym (length-append e rest))

-- ---- the end, and a refusal

module _ {width : ℕ} (F : Format width) where
  -- a second end changes nothing
  pub end-twice : (p : Phase F) → ended F (ended F p) ≡ ended F p
  unfolding ended
  end-twice heading = refl
  end-twice (counting h i s) = refl
  end-twice (passing h s zero) = refl
  end-twice (passing h s (suc n)) = refl
  end-twice (broken n p) = refl

  -- a phase that no call and no end leaves: a chunk is taken whole, and nothing is handed out
  pub record Stays (p : Phase F) : Type 0 where
    pub feeds : (c : List ℕ) → feed (traces F) (bare F p) c ≡ fed (bare F p) (length c) false
    pub ends : ended F p ≡ p

  pub refused-stays : (p : Phase F) (n t k : ℕ) → verdict F p ≡ refused_in n t k → Stays p
  unfolding verdict ended
  refused-stays heading n t k e = absurd (refused-given (sym e))
  refused-stays (counting h i s) n t k e = absurd (refused-given (sym e))
  refused-stays (passing h s m) n t k e = absurd (refused-given (sym e))
  refused-stays (broken m p) n t k e = record { feeds = broken-feeds F m p; ends = refl }
