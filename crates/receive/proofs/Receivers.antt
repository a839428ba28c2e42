-- What a user of the reader asks for: for every image, in every cutting, the claim of crate `pieces` in terms of the calls' bytes.
use mathlib.Core.Path.{◌≡◌, refl, sym, ap, ◌∙◌, subst}
use mathlib.Core.List.{List}
use Prim.Native.Nat.{ℕ}
use lib.Dec.{lit<}
use lib.ListN.{length}
use Rattle.word.specs.Part.{Bytes}
use Rattle.refusal.specs.Refusals.{Answer, given, ◌and_then◌}
use Rattle.refusal.proofs.Answers.{both-passed}
use Rattle.replay.specs.Image.{Shape, snapshots, snapshot}
use Rattle.replay.specs.Events.{run}
use Rattle.replay.specs.Replay.{start_of, Replayable, replayed_image}
use Rattle.pieces.specs.Receiving.{calls_of, Received, join, AllBytes}
use Rattle.pieces.specs.Traces.{Phase, shown, verdict, ended}
use Rattle.pieces.specs.Outcome.{final}
use Rattle.pieces.specs.Claim.{firsts, Fits, whole, told, Claim}
use Rattle.pieces.proofs.Receiving.{chunks-bytes, DrivenAlike}
use Rattle.pieces.proofs.Theorem.{claim}
use Rattle.image.specs.declared.edition.Edition.{Edition}
use Rattle.image.specs.Editions.{system, max_size}
use Rattle.image.specs.Header.{header_size, shape_of, edition_of, system_of}
use Rattle.image.specs.Verdicts.{ValidTrace}
use Rattle.image.proofs.Accepted.{trace-passed, trace-replayable}
use Rattle.image.proofs.Headers.{Headed, passed-header}
use Rattle.image.proofs.Laws.{laws}
use Rattle.reader.specs.Formats.{zeros, format, images, ImageReader}
use Rattle.receive.specs.Calls.{end_verdict}
use Rattle.receive.specs.Receivers.{Lent, calls, from_new, first_fault, Replays, Receives}
use Rattle.image_replay.specs.Replays.{final_snapshot}
use Rattle.reader.proofs.Heads.{same-given}
use Rattle.receive.proofs.Ready.{end-verdict, end-shows}
use Rattle.receive.proofs.FirstFault.{same-checks, start-same, front, shape-front, edition-front, verdict-front, outcome-first, first-valid}
use Rattle.receive.proofs.Driven.{view, Held, driven, same-received}

module _ (image buffer : List ℕ) (chunks : List (List ℕ)) (bytes : Bytes image) (long : length buffer ≡ max_size) (e : join chunks ≡ image) where
  abbrev o : Received Lent
  o = from_new buffer chunks

  claimed : Claim format image chunks
  claimed = claim format (lit< tt) (lit< tt) (λ h. refl) image chunks e

  all-bytes : (cs : List (List ℕ)) → join cs ≡ image → AllBytes cs
  all-bytes cs q = chunks-bytes cs (rw q bytes)

  abbrev same : DrivenAlike (calls_of images) calls view Held o (whole format chunks)
  same = driven buffer long chunks (all-bytes chunks e)

  abbrev p : Phase format
  p = ended format (whole format chunks).reader.phase

  -- the end of the bytes is the end of the reader in them
  end-same : end_verdict o.reader.reader o.reader.buffer ≡ verdict format p
  end-same = end-verdict same.inv ∙ ap (λ (x : ImageReader). verdict format (ended format x.phase)) same.seen

  answers : (verdict format p and_then given (shown format p)) ≡ (first_fault image and_then given (final format (front image) image))
  answers = claimed.every ∙ outcome-first image

  -- ---- a valid trace

  module _ (v : ValidTrace image) where
    abbrev h : List ℕ
    h = front image

    -- what replay's image is, by the edition and the shape
    abbrev Handed : Edition → Shape → Type 0
    Handed ed g =
        ((whole format chunks).out ≡ firsts (system ed) g (replayed_image (system ed) g image) (snapshots g))
        × (told format chunks ≡ given ((system ed).encode (run (system ed) (start_of (system ed) g image) image header_size g.count)))

    fits : Fits format h image
    fits =
        let head : Headed image = (trace-passed image v).header in
        record {
          opening = ap (λ (a : Answer Unit). a and_then given h) (verdict-front image head.long ∙ passed-header image head);
          header = refl;
          start = start-same (edition_of h) (zeros (system_of h).size) (snapshot (system_of h) (shape_of h) image 0);
        }

    handed : Handed (edition_of image) (shape_of image)
    handed =
        let replayable : Replayable (system_of h) (shape_of h) image =
        subst (λ (ed : Edition). Replayable (system ed) (shape_of h) image) (sym (edition-front image))
        (subst (λ (g : Shape). Replayable (system_of image) g image) (sym (shape-front image)) (trace-replayable image bytes v)) in
        subst (λ (ed : Edition). Handed ed (shape_of image)) (edition-front image)
        (subst (Handed (edition_of h)) (shape-front image) (claimed.valid h fits (laws (edition_of h)) replayable))

    replays : Replays image o
    replays =
        let final : (verdict format p ≡ given tt) × (given (shown format p) ≡ given (final_snapshot image)) =
        both-passed (verdict format p) (given (shown format p)) handed.1 in
        let passes : end_verdict o.reader.reader o.reader.buffer ≡ given tt = end-same ∙ final.0 in
        record {
          out = same.out ∙ handed.0;
          verdict = passes;
          buffer = end-shows same.inv passes ∙ ap (λ (x : ImageReader). shown format (ended format x.phase)) same.seen ∙ same-given final.1;
        }

  pub receives-claim : Receives image buffer chunks
  receives-claim =
      record {
        valid = replays;
        every = end-same ∙ same-checks (verdict format p) (first_fault image) (shown format p) (final format (front image) image) answers;
        exact = first-valid image;
        cuttings = λ others q. same-received buffer long others chunks (all-bytes others (q ∙ e)) (all-bytes chunks e) (claimed.cuttings others q);
      }
