-- Document 01, "The office program": the line for an image, by what replay answers.
use Rattle.std.specs.Prelude.{Result, Ok, Err, List, ℕ}
use Rattle.counter.specs.declared.state.Counter.{Counter}
use Rattle.refusal.specs.Refusals.{Answer, refused_in, given, ◌and_then◌}
use Rattle.image.specs.Header.{event_count, snapshot_count}
use Rattle.image.specs.Verdicts.{replay_verdict}
use Rattle.image_replay.specs.Replays.{final_state}
use Rattle.report.specs.Line.{replay_line, refusal_line}
use Rattle.report.specs.declared.office.Failed.{Failed}

-- a refusal's line, or that of the counts and the final state
abbrev pub line_of : ℕ → ℕ → Answer Counter → List ℕ
line_of events snapshots (refused_in number trace place) = refusal_line number place
line_of events snapshots (given c) = replay_line events snapshots c.acc c.out c.er c.flags

abbrev pub office_line : List ℕ → List ℕ
office_line image = line_of (event_count image) (snapshot_count image) (replay_verdict image and_then given (final_state image))

-- how many bytes a read brought, by how it ended
abbrev pub count_of : Result ℕ Failed → ℕ
count_of (Ok n) = n
count_of (Err failed) = failed.after
