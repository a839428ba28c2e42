-- A refusal's place fits 32 bits, so that a status can tell it.
use mathlib.Core.Path.{◌≡◌}
use mathlib.Core.List.{List}
use Prim.Native.Nat.{ℕ}
use lib.ListN.{length}
use Rattle.word.specs.Part.{Bytes}
use Rattle.refusal.specs.Refusals.{given, Placed}
use Rattle.refusal.proofs.Answers.{placed-test, placed-then}
use Rattle.pieces.specs.Traces.{Phase, heading, counting, passing, broken, verdict}
use Rattle.pieces.specs.Sound.{SoundAt}
use Rattle.reader.specs.Formats.{format}
use Rattle.reader.specs.Layout.{reader_size}
use Rattle.reader.specs.WellFormed.{Fault}
use Rattle.receive.specs.Calls.{refuses, lent_verdict, fed_by, feed_verdict, ended_by, end_verdict}
use Rattle.reader.proofs.Heads.{fault-small}
use Rattle.receive.proofs.Ready.{passes-ready, fed-sound, end-sound}

verdict-placed : (p : Phase format) (a : List ℕ) → SoundAt format Fault p a → Placed (verdict format p)
unfolding verdict
verdict-placed heading a s = tt
verdict-placed (counting h i c) a s = tt
verdict-placed (passing h c n) a s = tt
verdict-placed (broken n p) a s = (fault-small s.0).1

module _ (b buffer : List ℕ) (bytes : Bytes b) (long : length b ≡ reader_size) where
  lent-placed : Placed (lent_verdict b buffer)
  unfolding lent_verdict
  lent-placed = placed-test (refuses b buffer) 9 (given tt) (λ _. tt)

  pub feed-placed : (chunk : List ℕ) → Bytes chunk → Placed (feed_verdict b chunk buffer)
  unfolding feed_verdict
  feed-placed chunk chunks =
      placed-then (lent_verdict b buffer) _ lent-placed λ e.
      verdict-placed (fed_by b chunk).reader.phase (fed_by b chunk).reader.got (fed-sound b bytes (passes-ready b buffer bytes long e).formed chunk chunks)

  pub end-placed : Placed (end_verdict b buffer)
  unfolding end_verdict
  end-placed =
      placed-then (lent_verdict b buffer) _ lent-placed λ e.
      verdict-placed (ended_by b).phase (ended_by b).got (end-sound b bytes (passes-ready b buffer bytes long e).formed)
