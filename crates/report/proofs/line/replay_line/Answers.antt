-- `report::line::replay_line` meets its contract: its pieces, one after the other.
use mathlib.Core.Path.{ap, ◌∙◌}
use mathlib.Core.List.{List, ◌++◌}
use Prim.Native.Nat.{ℕ}
use native.Mathlib.Omega.{arith}
use Rattle.word.proofs.TwosComplement.{signed-unsigned}
use Rattle.report.specs.Line.{decimal, signed_decimal, hexadecimal, line_end, replay_line}
use Rattle.report.specs.Line.{events_word, snapshots_word, acc_word, out_word, er_word, flags_word}
use Rattle.report.proofs.Digits.{length-decimal}
use Rattle.report.proofs.Signs.{length-signed}
use Rattle.report.proofs.Pieces.{next}
use Rattle.report.proofs.line.replay_line.Goals as goal

pub push_decimal-requires : goal.push_decimal-requires
push_decimal-requires c = let digits = length-decimal 20 c.args.events in grind arith

pub push_decimal-requires-2 : goal.push_decimal-requires-2
push_decimal-requires-2 c = let digits = length-decimal 20 c.args.snapshots in grind arith

pub push_signed-requires : goal.push_signed-requires
push_signed-requires c = let digits = length-signed c.args.acc in rw (signed-unsigned c.ranges.acc) (grind arith)

pub push_decimal-requires-3 : goal.push_decimal-requires-3
push_decimal-requires-3 c = let digits = length-decimal 20 c.from-2.result in grind arith

pub returns : goal.returns
unfolding replay_line
returns c =
    let a = c.args in
    let events = next events_word (decimal a.events) c.new-line.ensures c.push.ensures.text c.push_decimal.ensures.text in
    let snapshots = next snapshots_word (decimal a.snapshots) events c.push-2.ensures.text c.push_decimal-2.ensures.text in
    let acc = next acc_word (signed_decimal a.acc) snapshots c.push-3.ensures.text (rw (signed-unsigned c.ranges.acc) at c.push_signed.ensures.text) in
    let out = next out_word (hexadecimal 4 a.out) acc c.push-4.ensures.text (rw c.from.ensures at c.push_hexadecimal.ensures.text) in
    let er = next er_word (decimal a.er) out c.push-5.ensures.text (rw c.from-2.ensures at c.push_decimal-3.ensures.text) in
    let flags = next flags_word (hexadecimal 8 a.flags) er c.push-6.ensures.text (rw c.from-3.ensures at c.push_hexadecimal-2.ensures.text) in
    c.push-7.ensures.text ∙ ap (λ (l : List ℕ). l ++ line_end) flags
