-- `report::office::read_full`: what a read gives stands right after what was there.
use Rattle.std.proofs.Common.{◌≡◌, ℕ, ◌+◌, ◌-◌, ◌≤◌, List, ◌++◌, None, Some, rules, length, take, ap, ap₂, sym, subst, ◌∙◌, le_refl, drop_at, length-take-le, append_assoc}
use Rattle.std.proofs.lemmas.Slice.{take-put_mid_below}
use Rattle.std.specs.Io.KnownBytes.{Consumes}
use Rattle.std.specs.declared.option.Option.{Option}
use lib.Seq.{take-add, take-append-le}
use borrow.Rule.Slice.PartMut.{put_mid, post_of}
use Rattle.report.proofs.office.read_full.Goals as goal

-- what two reads took, one after the other
both-taken : (a b c : Option (List ℕ)) (bs cs : List ℕ) → Consumes a b bs → Consumes b c cs → Consumes a c (bs ++ cs)
both-taken None b c bs cs p q = tt
both-taken (Some x) None c bs cs p q = absurd p
both-taken (Some x) (Some y) None bs cs p q = absurd q
both-taken (Some x) (Some y) (Some z) bs cs p q = p ∙ ap (λ l. bs ++ l) q ∙ sym (append_assoc bs cs z)

-- the front, where n more bytes stand after the first `at`
front-more : (at n k : ℕ) (old part : List ℕ) → at ≤ length old → n ≤ length part → take at old ++ take n part ≡ take (at + n) (put_mid at k old part)
front-more at n k old part within fits =
    let rest = post_of at k old in
    let before = take-put_mid_below at k old part at (le_refl at) within in
    let after = ap (take n) (drop_at (take at old) (part ++ rest) at (length-take-le at old within)) ∙ take-append-le n part rest fits in
    sym (take-add at n (put_mid at k old part) ∙ ap₂ (λ f r. f ++ r) before after)

pub loop-done-preserved : goal.loop-done-preserved
loop-done-preserved g c =
    let l = c.loop-done in
    let more = front-more l.done c.in-Ok.n (length l.buf - l.done) l.buf c.read.new.buf l.invariant.1 c.in-Ok.ensures.bound.0 in (
      search rules,
      search rules,
      subst (Consumes _ _) more (both-taken _ _ _ _ _ l.invariant.2 c.in-Ok.ensures.bytes.0),
    )
