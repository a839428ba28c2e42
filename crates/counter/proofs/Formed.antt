-- A well-formed state by its parts: the tests of the definition, each as the fact that it decides.
use mathlib.Core.Path.{◌≡◌, refl}
use mathlib.Core.Bool.{Bool, true, false, not, beq, and-eq-true_iff, false≢true}
use Prim.Native.Nat.{◌<◌, ◌≤◌, ◌^◌}
use borrow.Author.Tests.{ltb-true, leb-true, eqb-true, lt-ltb, le-leb, eq-eqb}
use lib.Dec.{eqb}
use Rattle.accumulator.specs.Causes.{cause_count}
use Rattle.counter.specs.declared.desk.Desk.{Desk}
use Rattle.counter.specs.declared.state.Counter.{Counter}
use Rattle.counter.specs.Desk.{first, second, queued_of}
use Rattle.counter.specs.Parts.{flag, ED}
use Rattle.counter.specs.Loading.{rule_count}
use Rattle.counter.specs.WellFormed.{active_formed, parts_formed, well_formed}
use Rattle.counter.proofs.Queue.{Causes}

same : (a b : Bool) → beq a b ≡ true → a ≡ b
same true true h = refl
same true false h = absurd (false≢true h)
same false true h = absurd (false≢true h)
same false false h = refl

same-refl : (a : Bool) → beq a a ≡ true
same-refl true = refl
same-refl false = refl

-- ---- the parts

pub record Formed (c : Counter) : Type 0 where
  pub flags : c.flags < 2 ^ 20
  pub out : c.out < 2 ^ 12
  pub levels : c.levels ≤ 15
  pub causes : Causes cause_count c.desk
  pub er : c.er ≤ rule_count
  pub ed : flag c ED ≡ not (eqb c.er 0)
  pub active : active_formed c.flags c.active ≡ true

pub formed-parts : (c : Counter) → well_formed c ≡ true → Formed c
unfolding well_formed parts_formed
formed-parts c h =
    let d : Desk = c.desk in
    let counted = (and-eq-true_iff _ _).0 h in
    let active = (and-eq-true_iff _ _).0 counted.0 in
    let error = (and-eq-true_iff _ _).0 active.0 in
    let er = (and-eq-true_iff _ _).0 error.1 in
    let causes = (and-eq-true_iff _ _).0 error.0 in
    let levels = (and-eq-true_iff _ _).0 causes.0 in
    let words = (and-eq-true_iff _ _).0 levels.0 in
    let differ = (and-eq-true_iff _ _).0 causes.1 in
    let served = (and-eq-true_iff _ _).0 differ.0 in
    let order = (and-eq-true_iff _ _).0 served.0 in
    let waiting = (and-eq-true_iff _ _).0 order.0 in
    let most = (and-eq-true_iff _ _).0 waiting.0 in
    record {
      flags = ltb-true c.flags (2 ^ 20) words.0;
      out = ltb-true c.out (2 ^ 12) words.1;
      levels = leb-true c.levels 15 levels.1;
      causes = record {
        running-le = leb-true d.running cause_count most.0;
        queue = record {
          first-le = leb-true (first d) cause_count most.1;
          second-le = leb-true (second d) cause_count waiting.1;
          order = order.1;
          counted = eqb-true d.queued (queued_of (first d) (second d)) counted.1;
          differ = differ.1;
        };
        served = served.1;
      };
      er = leb-true c.er rule_count er.0;
      ed = same (flag c ED) (not (eqb c.er 0)) er.1;
      active = active.1;
    }

pub parts-formed : (c : Counter) → Formed c → well_formed c ≡ true
unfolding well_formed parts_formed
parts-formed c f =
    let d : Desk = c.desk in
    let k = f.causes in
    let q = k.queue in
    rw (
      lt-ltb c.flags (2 ^ 20) f.flags,
      lt-ltb c.out (2 ^ 12) f.out,
      le-leb c.levels 15 f.levels,
      le-leb d.running cause_count k.running-le,
      le-leb (first d) cause_count q.first-le,
      le-leb (second d) cause_count q.second-le,
      q.order,
      k.served,
      q.differ,
      le-leb c.er rule_count f.er,
      f.ed,
      same-refl (not (eqb c.er 0)),
      f.active,
      eq-eqb d.queued (queued_of (first d) (second d)) q.counted,
    )
