-- A cause that becomes an interrupt and a routine that is done keep a state well formed: the desk stays so, and the flags keep ED and LOADED.
use Prim.Native.Nat.{ℕ}
use Rattle.accumulator.specs.Causes.{cause_count}
use Rattle.counter.specs.declared.desk.Desk.{Desk}
use Rattle.counter.specs.declared.desk.Outcome.{Outcome}
use Rattle.counter.specs.Desk.{Next}
use Rattle.counter.specs.declared.state.Counter.{Counter}
use Rattle.counter.specs.Desk.{post, finish}
use Rattle.counter.specs.Parts.{with_desk}
use Rattle.counter.specs.Interrupts.{posted_flags, finished_flags, interrupt, routine_done}
use Rattle.counter.proofs.Flags.{kept-posted, kept-finished}
use Rattle.counter.proofs.Queue.{IsCause, WellDesk, well-post, well-finish}
use Rattle.counter.proofs.Changes.{Well, well-flags}

module _ (c : Counter) (w : Well c) where
  pub desk : WellDesk cause_count c.desk
  desk = record { causes = w.formed.causes; places = w.typed.waiting }

  pub well-desk : (d : Desk) → WellDesk cause_count d → Well (with_desk d c)
  well-desk d k =
      let f = w.formed in
      let t = w.typed in
      record {
        formed = record { flags = f.flags; out = f.out; levels = f.levels; causes = k.causes; er = f.er; ed = f.ed; active = f.active };
        typed = record { staged = t.staged; active = t.active; acc = t.acc; waiting = k.places };
      }

  pub well-interrupt : (cause : ℕ) → IsCause cause_count cause → Well (interrupt cause c)
  unfolding interrupt
  well-interrupt cause h =
      let d : Desk = (post cause c.desk).desk in
      let s : WellDesk cause_count d = well-post c.desk desk cause h in
      let o : Outcome = (post cause c.desk).outcome in
      well-flags (with_desk d c) (well-desk d s) (posted_flags o cause c.flags) (kept-posted o cause c.flags)

  pub well-routine_done : Well (routine_done c)
  unfolding routine_done
  well-routine_done =
      let d : Desk = (finish c.desk).desk in
      let s : WellDesk cause_count d = well-finish c.desk desk in
      let n : Next = (finish c.desk).next in
      well-flags (with_desk d c) (well-desk d s) (finished_flags n c.flags) (kept-finished n c.flags)
