-- Samples that are told by one test to have no effect but their levels. Document 01 has no such notion: it saves time, and `sampled-idle` in
-- `proofs/Idle.antt` says that nothing else comes of such a sample.
use Rattle.std.specs.Prelude.{Bool, true, not, ◌&&◌, ℕ, zero, suc, ltb}
use Rattle.counter.specs.declared.state.Counter.{Counter}
use Rattle.counter.specs.Parts.{mode}
use Rattle.counter.specs.Sample.{rises}

-- none of the first n inputs rises
unfoldable pub none_rises : ℕ → ℕ → ℕ → Bool
none_rises old new zero = true
none_rises old new (suc n) = not (rises old new n) && none_rises old new n

-- modes 0 to 5 count and reset by rises alone
unfoldable pub by_rises : ℕ → Bool
by_rises m = ltb m 6

-- no bit of the levels rises, in such a mode
unfoldable pub idle : ℕ → Counter → Bool
idle new c = none_rises c.levels new 8 && by_rises (mode c)
