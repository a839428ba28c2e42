-- `draw::draw_as` meets its contract: the state that the snapshot holds is loaded, and that after all events is written over it.
use mathlib.Core.Path.{sym, ap, ◌∙◌}
use lib.ListN.{length}
use Rattle.word.proofs.Part.{part-whole, put-whole}
use Rattle.replay.specs.Events.{run}
use Rattle.replay.specs.Counts.{after_each}
use Rattle.draw.proofs.draw_as.Goals as goal

pub load-machine-requires-clause-can_load : goal.load-machine-requires-clause-can_load
load-machine-requires-clause-can_load g c = rw (part-whole c.args.snapshot.now g.M.Machine.system.size c.requires.whole) c.requires.can_load

pub returns : goal.returns
returns g c =
    let m = g.M.Machine in
    let S = m.system in
    let a = c.args in
    let events = a.events.now in
    let n = length a.row.now in
    let loaded = c.load-machine.ensures ∙ ap S.decode (part-whole a.snapshot.now S.size c.requires.whole) in
    record {
      snapshot = c.write.ensures
          ∙ put-whole a.snapshot.now _ (c.requires.whole ∙ sym (g.met.M.Machine.long _))
          ∙ ap S.encode (c.draw.ensures.state ∙ ap (λ (s : S.State). run S s events 0 n) loaded);
      row = c.draw.ensures.row ∙ ap (λ (s : S.State). after_each S m.number s events 0 0 n) loaded;
    }
