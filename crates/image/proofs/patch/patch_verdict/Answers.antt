-- `image::patch::patch_verdict` meets its contract: the tests are those of the definition, in its order.
use mathlib.Core.Path.{◌≡◌, sym, ap, ◌∙◌}
use mathlib.Core.Bool.{Bool, not, ◌||◌}
use Prim.Native.Nat.{ℕ, ◌+◌, ◌/◌, ◌%◌}
use lib.Dec.{eqb, ltb}
use lib.ListN.{length}
use Rattle.snapshot.specs.Widths.{event_size}
use Rattle.image.specs.Verdicts.{patch_broken, patch_verdict}
use Rattle.image.proofs.Accepted.{found, not-found}
use Rattle.image.proofs.patch.patch_verdict.Goals as goal

-- the test as the code makes it, by the call that asked of the sum
tested : (length f e : ℕ) {b t : Bool} → b ≡ ltb e (f + length / event_size) → not (eqb (length % event_size) 0) || b ≡ t → patch_broken length f e ≡ t
tested length f e asked test = ap (λ (b : Bool). not (eqb (length % event_size) 0) || b) (sym asked) ∙ test

pub returns-then-patch-beyond : goal.returns-then-patch-beyond
unfolding patch_verdict
returns-then-patch-beyond c = rw (tested _ _ _ c.beyond.ensures c.if-patch-beyond.true)

pub returns-then-i-n : goal.returns-then-i-n
unfolding patch_verdict
returns-then-i-n c =
    rw (tested _ _ _ c.beyond.ensures c.if-patch-beyond.false) (found _ _ 0 8 _ _ c.first_illegal-i.ensures c.if-i-n.true)

pub returns : goal.returns
unfolding patch_verdict
returns c =
    rw (tested _ _ _ c.beyond.ensures c.if-patch-beyond.false) (not-found _ _ 0 8 _ _ c.first_illegal-i.ensures c.if-i-n.false)
