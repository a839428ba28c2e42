-- What code has of a struct's value: that each part is a value of its type, as the definitions' records say it.
use borrow.Author.Rules.{rules}
use mir.Syntax.{w32}
use mir.Val.{SFits}
use denote.Struct.Declared.{fields}
use denote.Struct.Struct.{AreAll}
use denote.RattleType.{Valss}
use Rattle.accumulator.specs.declared.Counted.{Counted}
use Rattle.accumulator.specs.contracts.Counted as counted
use Rattle.counter.specs.declared.state.Settings.{Settings}
use Rattle.counter.specs.declared.state.Counter.{Counter}
use Rattle.counter.specs.declared.sampling.Sampled.{Sampled}
use Rattle.counter.specs.WellFormed.{SettingsTyped, Typed}
use Rattle.counter.specs.contracts.state.Settings as settings
use Rattle.counter.specs.contracts.state.Counter as counter
use Rattle.counter.specs.contracts.sampling.Sampled as sampled

pub settings-typed : (s : Settings) (vss : Valss (fields settings.the_type)) → AreAll (fields settings.the_type) ((settings.the_type).to s) vss → SettingsTyped s
settings-typed s vss g =
    record {
      pfn = record { sfits = g.0.1 };
      mode = record { sfits = g.1.0.1 };
      hip = record { sfits = g.1.1.0.1 };
      lop = record { sfits = g.1.1.1.0.1 };
      ovf = record { sfits = g.1.1.1.1.0.1 };
      unf = record { sfits = g.1.1.1.1.1.0.1 };
      omb = g.1.1.1.1.1.1.0.1;
      hpo = g.1.1.1.1.1.1.1.0.1;
      lpo = g.1.1.1.1.1.1.1.1.0.1;
    }

pub counter-typed : (c : Counter) (vss : Valss (fields counter.the_type)) → AreAll (fields counter.the_type) ((counter.the_type).to c) vss → Typed c
counter-typed c vss g =
    record {
      staged = settings-typed c.staged g.0.0 g.0.1.1;
      active = settings-typed c.active g.1.0.0 g.1.0.1.1;
      acc = record { sfits = g.1.1.0.1 };
      waiting = search rules;
    }

pub counted-typed : (r : Counted) (vss : Valss (fields counted.the_type)) → AreAll (fields counted.the_type) ((counted.the_type).to r) vss → SFits w32 r.acc
counted-typed r vss g = record { sfits = g.0.1 }

pub sampled-typed : (r : Sampled) (vss : Valss (fields sampled.the_type)) → AreAll (fields sampled.the_type) ((sampled.the_type).to r) vss → SFits w32 r.acc
sampled-typed r vss g = record { sfits = g.0.1 }
