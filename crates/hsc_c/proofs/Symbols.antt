-- What the archive's symbols promise. Each is proved to meet its contract, and so to end and to do nothing undefined; and its contract, as the
-- checker reads it for a caller, is that of the function of the same name in `hsc`: what is asked of the arguments, and what is learnt.
use mathlib.Core.Path.{◌≡◌, refl}
use Rattle.hsc.proofs as hsc
use Rattle.hsc_c.proofs as symbol

pub symbols-met : {M : Type 1} → symbol.hsc_version.Statement.statement M
    × symbol.hsc_event_check.Statement.statement M
    × symbol.hsc_step.Statement.statement M
    × symbol.hsc_read.Statement.statement M
    × symbol.hsc_replay.Statement.statement M
    × symbol.hsc_mend.Statement.statement M
    × symbol.hsc_compare.Statement.statement M
    × symbol.hsc_rest.Statement.statement M
    × symbol.hsc_draw.Statement.statement M
    × symbol.hsc_first_difference.Statement.statement M
    × symbol.hsc_reader_new.Statement.statement M
    × symbol.hsc_reader_feed.Statement.statement M
    × symbol.hsc_reader_end.Statement.statement M
symbols-met = (
  symbol.hsc_version.Met.met,
  symbol.hsc_event_check.Met.met,
  symbol.hsc_step.Met.met,
  symbol.hsc_read.Met.met,
  symbol.hsc_replay.Met.met,
  symbol.hsc_mend.Met.met,
  symbol.hsc_compare.Met.met,
  symbol.hsc_rest.Met.met,
  symbol.hsc_draw.Met.met,
  symbol.hsc_first_difference.Met.met,
  symbol.hsc_reader_new.Met.met,
  symbol.hsc_reader_feed.Met.met,
  symbol.hsc_reader_end.Met.met,
)

pub symbol-version : (symbol.hsc_version.Reads.Asked ≡ hsc.version.hsc_version.Reads.Asked)
    × (symbol.hsc_version.Reads.Learnt ≡ hsc.version.hsc_version.Reads.Learnt)
symbol-version = (refl, refl)

pub symbol-event-check : (symbol.hsc_event_check.Reads.Asked ≡ hsc.checking.hsc_event_check.Reads.Asked)
    × (symbol.hsc_event_check.Reads.Learnt ≡ hsc.checking.hsc_event_check.Reads.Learnt)
symbol-event-check = (refl, refl)

pub symbol-step : (symbol.hsc_step.Reads.Asked ≡ hsc.stepping.hsc_step.Reads.Asked)
    × (symbol.hsc_step.Reads.Learnt ≡ hsc.stepping.hsc_step.Reads.Learnt)
symbol-step = (refl, refl)

pub symbol-read : (symbol.hsc_read.Reads.Asked ≡ hsc.reading.hsc_read.Reads.Asked)
    × (symbol.hsc_read.Reads.Learnt ≡ hsc.reading.hsc_read.Reads.Learnt)
symbol-read = (refl, refl)

pub symbol-replay : (symbol.hsc_replay.Reads.Asked ≡ hsc.replaying.hsc_replay.Reads.Asked)
    × (symbol.hsc_replay.Reads.Learnt ≡ hsc.replaying.hsc_replay.Reads.Learnt)
symbol-replay = (refl, refl)

pub symbol-mend : (symbol.hsc_mend.Reads.Asked ≡ hsc.mending.hsc_mend.Reads.Asked)
    × (symbol.hsc_mend.Reads.Learnt ≡ hsc.mending.hsc_mend.Reads.Learnt)
symbol-mend = (refl, refl)

pub symbol-compare : (symbol.hsc_compare.Reads.Asked ≡ hsc.comparing.hsc_compare.Reads.Asked)
    × (symbol.hsc_compare.Reads.Learnt ≡ hsc.comparing.hsc_compare.Reads.Learnt)
symbol-compare = (refl, refl)

pub symbol-rest : (symbol.hsc_rest.Reads.Asked ≡ hsc.comparing.hsc_rest.Reads.Asked)
    × (symbol.hsc_rest.Reads.Learnt ≡ hsc.comparing.hsc_rest.Reads.Learnt)
symbol-rest = (refl, refl)

pub symbol-draw : (symbol.hsc_draw.Reads.Asked ≡ hsc.drawing.hsc_draw.Reads.Asked)
    × (symbol.hsc_draw.Reads.Learnt ≡ hsc.drawing.hsc_draw.Reads.Learnt)
symbol-draw = (refl, refl)

pub symbol-first-difference : (symbol.hsc_first_difference.Reads.Asked ≡ hsc.differing.hsc_first_difference.Reads.Asked)
    × (symbol.hsc_first_difference.Reads.Learnt ≡ hsc.differing.hsc_first_difference.Reads.Learnt)
symbol-first-difference = (refl, refl)

pub symbol-reader-new : (symbol.hsc_reader_new.Reads.Asked ≡ hsc.receiving.hsc_reader_new.Reads.Asked)
    × (symbol.hsc_reader_new.Reads.Learnt ≡ hsc.receiving.hsc_reader_new.Reads.Learnt)
symbol-reader-new = (refl, refl)

pub symbol-reader-feed : (symbol.hsc_reader_feed.Reads.Asked ≡ hsc.receiving.hsc_reader_feed.Reads.Asked)
    × (symbol.hsc_reader_feed.Reads.Learnt ≡ hsc.receiving.hsc_reader_feed.Reads.Learnt)
symbol-reader-feed = (refl, refl)

pub symbol-reader-end : (symbol.hsc_reader_end.Reads.Asked ≡ hsc.receiving.hsc_reader_end.Reads.Asked)
    × (symbol.hsc_reader_end.Reads.Learnt ≡ hsc.receiving.hsc_reader_end.Reads.Learnt)
symbol-reader-end = (refl, refl)
