-- Document 02, request 5: "the first fault in byte order", of a whole list of bytes. No reader and no cutting stands here.
use Rattle.std.specs.Prelude.{cond, List, ℕ, ◌-◌, ◌/◌, min, eqb, ltb, length, take}
use Rattle.refusal.specs.Refusals.{Answer, refused_in, refused, given, ◌and_then◌}
use Rattle.replay.specs.Image.{snapshots, snapshot_place}
use Rattle.replay.specs.Events.{first_illegal, run}
use Rattle.pieces.specs.Traces.{Format, count}

module _ {width : ℕ} (F : Format width) where
  module _ (h : F.Head) (bytes : List ℕ) where
    -- how many events came whole
    abbrev pub whole_events : ℕ
    whole_events = min (count F h) ((length bytes - F.size) / width)

    abbrev pub illegal : ℕ
    illegal = first_illegal (F.system h) bytes F.size 0 whole_events

    -- 5, at the first that is illegal
    unfoldable pub events_fault : Answer Unit
    events_fault = cond (ltb illegal whole_events) (refused 5 illegal) (given tt)

    -- 4, if the bytes are too few or too many
    unfoldable pub length_fault : Answer Unit
    length_fault = cond (eqb (length bytes) (snapshot_place (F.system h) (F.shape h) (snapshots (F.shape h)))) (given tt) (refused 4 0)

    -- the snapshot of the state after all events
    unfoldable pub final : List ℕ
    final = (F.system h).encode (run (F.system h) (F.start h) bytes F.size (count F h))

  unfoldable pub opened_outcome : Answer F.Head → List ℕ → Answer (List ℕ)
  opened_outcome (refused_in n t p) bytes = refused n p
  opened_outcome (given h) bytes = events_fault h bytes and_then length_fault h bytes and_then given (final h bytes)

  -- 1; 2, 3; 5; 4; or the final state's snapshot
  unfoldable pub outcome : List ℕ → Answer (List ℕ)
  outcome bytes = cond (ltb (length bytes) F.size) (refused 1 0) (opened_outcome (F.opens (take F.size bytes)) bytes)
