-- Document 02, request 5: the claim for every image and every cutting, as one record.
use Rattle.std.specs.Prelude.{◌≡◌, List, [], ◌∷◌, ◌++◌, ℕ, zero, suc, take}
use Rattle.refusal.specs.Refusals.{Answer, given, ◌and_then◌}
use Rattle.replay.specs.System.{System, Laws}
use Rattle.replay.specs.Image.{Shape, snapshots, snapshot}
use Rattle.replay.specs.Events.{run}
use Rattle.replay.specs.Replay.{start_of, Replayable, replayed_image}
use Rattle.pieces.specs.Reading.{Reader}
use Rattle.pieces.specs.Receiving.{Received, calls_of, join, drive}
use Rattle.pieces.specs.Traces.{Format, Phase, traces, fresh, verdict, ended, shown}
use Rattle.pieces.specs.Outcome.{outcome}

-- the first m snapshots of an image, in order
unfoldable pub firsts : {width : ℕ} (S : System width) (g : Shape) → List ℕ → ℕ → List (List ℕ)
firsts S g image zero = []
firsts S g image (suc m) = firsts S g image m ++ (snapshot S g image m ∷ [])

-- the image's header tells h, and its trace starts where the format says
pub record Fits {width : ℕ} (F : Format width) (h : F.Head) (image : List ℕ) : Type 0 where
  pub opening : F.opens (take F.size image) ≡ given h
  pub header : (F.shape h).header ≡ F.size
  pub start : F.start h ≡ start_of (F.system h) (F.shape h) image

module _ {width : ℕ} (F : Format width) where
  -- what the end answers: the refusal, or the final state's snapshot
  abbrev pub answer : Phase F → Answer (List ℕ)
  answer p = verdict F (ended F p) and_then given (shown F (ended F p))

  -- what the receiver of these chunks has before the end, and what the end answers
  abbrev pub whole : List (List ℕ) → Received (Reader (traces F))
  whole = drive (calls_of (traces F)) (fresh F)

  abbrev pub told : List (List ℕ) → Answer (List ℕ)
  told chunks = answer (whole chunks).reader.phase

  pub record Claim (image : List ℕ) (chunks : List (List ℕ)) : Type 1 where
    -- for an image that replay takes, the snapshots handed out are those of the replayed image, S of them, and the final state is replay's
    pub valid : (h : F.Head) → Fits F h image → Laws (F.system h) → Replayable (F.system h) (F.shape h) image
        → ((whole chunks).out ≡ firsts (F.system h) (F.shape h) (replayed_image (F.system h) (F.shape h) image) (snapshots (F.shape h)))
        × (told chunks
        ≡ given ((F.system h).encode (run (F.system h) (start_of (F.system h) (F.shape h) image) image F.size (F.shape h).count)))
    -- for every image the end answers what the whole list of bytes says
    pub every : told chunks ≡ outcome F image
    -- two cuttings never differ
    pub cuttings : (others : List (List ℕ)) → join others ≡ join chunks → whole others ≡ whole chunks
