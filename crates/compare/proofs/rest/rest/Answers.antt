-- `compare::rest::rest` meets its contract: by the case that the match found, the part that is returned is the rest.
use mathlib.Core.Path.{◌≡◌, sym, ◌∙◌}
use native.Mathlib.Omega.{arith}
use Rattle.refusal.specs.declared.Trace.TheVariants.{First, Second}
use Rattle.compare.specs.Rest.{rest_trace}
use Rattle.compare.proofs.Remaining.{longer-first, longer-second, rest-first, rest-second}
use Rattle.compare.proofs.rest.rest.Goals as goal

pub slice_bounds-result-count : goal.slice_bounds-result-count
slice_bounds-result-count c =
    let first_found : let args = c.args in
    rest_trace args.first.now args.second.now ≡ First =
    sym c.longer.ensures ∙ c.in-First.is in
    omega (arith, longer-first _ _ first_found)

pub slice_bounds-result-start : goal.slice_bounds-result-start
slice_bounds-result-start c =
    let first_found : let args = c.args in
    rest_trace args.first.now args.second.now ≡ First =
    sym c.longer.ensures ∙ c.in-First.is in
    omega (arith, longer-first _ _ first_found)

pub slice_bounds-result-count-in-Second : goal.slice_bounds-result-count-in-Second
slice_bounds-result-count-in-Second c =
    let second-found : let args = c.args in
    rest_trace args.first.now args.second.now ≡ Second =
    sym c.longer.ensures ∙ c.in-Second.is in
    omega (arith, longer-second _ _ second-found)

pub slice_bounds-result-start-in-Second : goal.slice_bounds-result-start-in-Second
slice_bounds-result-start-in-Second c =
    let second-found : let args = c.args in
    rest_trace args.first.now args.second.now ≡ Second =
    sym c.longer.ensures ∙ c.in-Second.is in
    omega (arith, longer-second _ _ second-found)

pub returns-in-First : goal.returns-in-First
returns-in-First c =
    let first_found : let args = c.args in
    rest_trace args.first.now args.second.now ≡ First =
    sym c.longer.ensures ∙ c.in-First.is in
    let args = c.args in
    let all = rest-first args.first.ref_ptr args.second.ref_ptr args.first.now args.second.now first_found in
    record { bytes = all.0; place = all.1 }

pub returns-in-Second : goal.returns-in-Second
returns-in-Second c =
    let second-found : let args = c.args in
    rest_trace args.first.now args.second.now ≡ Second =
    sym c.longer.ensures ∙ c.in-Second.is in
    let args = c.args in
    let all = rest-second args.first.ref_ptr args.second.ref_ptr args.first.now args.second.now second-found in
    record { bytes = all.0; place = all.1 }
