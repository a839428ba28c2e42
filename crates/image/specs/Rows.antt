-- A row of events that is lent without a header, and the one that an image has.
use Rattle.std.specs.Prelude.{List, ℕ, ◌*◌, ◌/◌, length}
use Rattle.word.specs.Part.{part}
use Rattle.snapshot.specs.Widths.{event_size}
use Rattle.image.specs.Header.{header_size, event_count}

-- how many events it has
abbrev pub events_in : List ℕ → ℕ
events_in events = length events / event_size

abbrev pub event_area : List ℕ → List ℕ
event_area image = part image header_size (event_count image * event_size)
