-- `report::text::Text::push_signed` meets its contract: a minus sign and the size, or the number itself.
use mathlib.Core.Path.{◌≡◌, ap, ap₂, ◌∙◌}
use mathlib.Core.List.{List, [], ◌∷◌, ◌++◌, append_assoc}
use Prim.Native.Nat.{ℕ, suc}
use native.Mathlib.Omega.{arith}
use lib.IntN.{ℤ}
use lib.ListN.{length}
use Rattle.word.proofs.TwosComplement.{signed-unsigned}
use Rattle.report.specs.Line.{decimal, signed_decimal}
use Rattle.report.proofs.Signs.{negative-text, other-text}
use Rattle.report.proofs.text.Text.push_signed.Goals as goal

pub push-requires : goal.push-requires
push-requires c =
    let size = c.from-size.ensures ∙ c.unsigned_abs.ensures.value in
    let text =
    ap (λ (n : ℕ). 45 ∷ decimal n) size
    ∙ negative-text _ c.if-v-lt0.true
    ∙ ap (λ (v : ℤ). signed_decimal v) (signed-unsigned c.ranges.v) in
    let long : suc (length (decimal c.from-size.result)) ≡ length (signed_decimal c.args.v) = ap (λ (l : List ℕ). length l) text in
    omega (arith, long, c.requires)

pub push_decimal-requires : goal.push_decimal-requires
push_decimal-requires c =
    let size = c.from-size.ensures ∙ c.unsigned_abs.ensures.value in
    let text =
    ap (λ (n : ℕ). 45 ∷ decimal n) size
    ∙ negative-text _ c.if-v-lt0.true
    ∙ ap (λ (v : ℤ). signed_decimal v) (signed-unsigned c.ranges.v) in
    let long : suc (length (decimal c.from-size.result)) ≡ length (signed_decimal c.args.v) = ap (λ (l : List ℕ). length l) text in
    omega (arith, long, c.requires, c.push.ensures.grown)

pub push_decimal-requires-else-v-lt0 : goal.push_decimal-requires-else-v-lt0
push_decimal-requires-else-v-lt0 c =
    let size = c.from-size.ensures ∙ c.unsigned_abs.ensures.value in
    let text =
    ap (λ (n : ℕ). decimal n) size
    ∙ other-text _ c.if-v-lt0.false
    ∙ ap (λ (v : ℤ). signed_decimal v) (signed-unsigned c.ranges.v) in
    let long : length (decimal c.from-size.result) ≡ length (signed_decimal c.args.v) = ap (λ (l : List ℕ). length l) text in
    omega (arith, long, c.requires)

pub returns-then-v-lt0-clause-text : goal.returns-then-v-lt0-clause-text
returns-then-v-lt0-clause-text c =
    let old : List ℕ = c.args.self.now in
    c.push_decimal.ensures.text
    ∙ ap₂ (λ (l : List ℕ) (n : ℕ). l ++ decimal n) c.push.ensures.text (c.from-size.ensures ∙ c.unsigned_abs.ensures.value)
    ∙ append_assoc old (45 ∷ []) _
    ∙ ap (λ (l : List ℕ). old ++ l) (negative-text _ c.if-v-lt0.true)
    ∙ ap (λ (v : ℤ). old ++ signed_decimal v) (signed-unsigned c.ranges.v)

pub returns-else-v-lt0-clause-text : goal.returns-else-v-lt0-clause-text
returns-else-v-lt0-clause-text c =
    let old : List ℕ = c.args.self.now in
    c.push_decimal-else-v-lt0.ensures.text
    ∙ ap (λ (n : ℕ). old ++ decimal n) (c.from-size.ensures ∙ c.unsigned_abs.ensures.value)
    ∙ ap (λ (l : List ℕ). old ++ l) (other-text _ c.if-v-lt0.false)
    ∙ ap (λ (v : ℤ). old ++ signed_decimal v) (signed-unsigned c.ranges.v)
