-- The bench table holds, row by row: the definitions compute each.
use mathlib.Core.Path.{◌≡◌, refl}
use mathlib.Core.Bool.{true}
use lib.ListN.{replicate}
use Rattle.word.specs.Masks.{bit, set_bit, clear_bit, merge}
use Rattle.accumulator.specs.Count.{up, down}
use Rattle.counter.specs.Desk.{post, finish}
use Rattle.counter.specs.Parts.{fresh, mode_of}
use Rattle.counter.specs.Interrupts.{preset_word, cause_word, unmasked, enabled, quiet, started, posted_flags, finished_flags, interrupt, routine_done, raise}
use Rattle.counter.specs.Sample.{up_flags, down_flags, counted_by}
use Rattle.counter.specs.Bench.{bench}

pub bench-holds : bench ≡ replicate 12 true
unfolding bench fresh mode_of bit set_bit clear_bit merge preset_word cause_word unmasked enabled quiet started
    post finish posted_flags finished_flags interrupt routine_done raise up down up_flags down_flags counted_by
bench-holds = refl
