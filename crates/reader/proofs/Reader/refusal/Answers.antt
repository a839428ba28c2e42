-- `Reader::refusal` meets its contract: what a reader waits for tells whether a refusal is remembered, and which.
use mathlib.Core.Path.{◌≡◌, ap, ◌∙◌, subst}
use mathlib.Core.Logic.{◌⊎◌, inl, inr}
use mathlib.Core.List.{List}
use Prim.Native.Nat.{ℕ}
use Rattle.refusal.specs.Refusals.{refused_in, number_of, place_of}
use Rattle.reader.specs.Layout.{number_in}
use Rattle.reader.specs.WellFormed.{Held}
use Rattle.reader.specs.Phases.{PhaseIs}
use Rattle.reader.specs.declared.phase.Phase.{Phase}
use Rattle.reader.specs.declared.phase.Phase.TheVariants.{Header, Events, Snapshots}
use Rattle.reader.proofs.Heads.{fault-small}
use Rattle.reader.proofs.Refusals.{no-refusal, refusal-is}
use Rattle.reader.proofs.Reader.refusal.Goals as goal

pub returns-in-Refused-clause-answer : goal.returns-in-Refused-clause-answer
returns-in-Refused-clause-answer c =
    let b = c.args.self.now in
    let held = c.in-Refused.ensures.held in
    let told = c.in-Refused.ensures.told in
    let r = c.in-Refused.refusal in
    let some : number_in b ≡ 0 → ⊥ = (fault-small told.may).2 in
    ap (λ (t : ℕ). refused_in (number_of r) t (place_of r)) told.alone
    ∙ refusal-is b held.bytes held.formed some told.numbered told.placed

-- what waits for bytes remembers none
waits : (b : List ℕ) {p : Phase} → PhaseIs b p
    → ((t : ℕ) × (p ≡ Header t)) ⊎ (((t : ℕ) × (p ≡ Events t)) ⊎ ((t : ℕ) × (p ≡ Snapshots t))) → Held b × (number_in b ≡ 0)
waits b is (inl h) = let e = subst (PhaseIs b) h.1 is in (e.held, e.clear)
waits b is (inr (inl h)) = let e = subst (PhaseIs b) h.1 is in (e.held, e.clear)
waits b is (inr (inr h)) = let e = subst (PhaseIs b) h.1 is in (e.held, e.clear)

pub returns-in-Header-clause-answer : goal.returns-in-Header-clause-answer
returns-in-Header-clause-answer c = no-refusal c.args.self.now (waits c.args.self.now c.phase.ensures c.in-Header.is).1

pub returns-in-Header-clause-held : goal.returns-in-Header-clause-held
returns-in-Header-clause-held c = (waits c.args.self.now c.phase.ensures c.in-Header.is).0
