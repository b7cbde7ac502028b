-- What there is to read for a fragment more, and none is left.
use Rattle.std.proofs.Common.{◌∙◌, ◌+◌, ◌++◌, ◌∷◌, [], ℕ, List, map, length, take, ap, sym, arith}
use Rattle.std.specs.List.{enumerate_from}
use Rattle.std.proofs.lemmas.List.{take_all}
use Rattle.reh_model.specs.Metadata.{Fragment, Metadata}
use Rattle.reh_scan.specs.Costs.{cost_of, costs_of}
use Rattle.reh_scan.proofs.SurveyLaws.{length-numbered, numbered-more}
use Rattle.reh_scan.proofs.costs.push_costs.Goals as goal

pub loop-number-preserved : goal.loop-number-preserved
loop-number-preserved c =
    let m : Metadata = c.args.metadata.now in
    let cost : ℕ × Fragment → ℕ = λ p. cost_of m p.0 p.1 in
    let fragments : List Fragment = c.fragments-fragment-items.result.now in
    c.in_ok-push.ensures.items
    ∙ (λ j. c.loop-number.invariant j ++ c.cost_of.ensures j ∷ [])
    ∙ ap (λ (gs : List Fragment).
    (c.args.costs.now.items ++ take c.loop-number.number (map cost (enumerate_from 0 gs)))
    ++ cost (c.loop-number.number, c.fragment-item.result) ∷ []) (sym c.fragments-fragment-items.ensures.fragments)
    ∙ numbered-more cost c.args.costs.now.items fragments c.loop-number.number c.fragment-item.result
    c.loop-number-test.true c.fragment-item.is
    ∙ ap (λ (gs : List Fragment).
    c.args.costs.now.items ++ take (c.loop-number.number + 1) (map cost (enumerate_from 0 gs)))
    c.fragments-fragment-items.ensures.fragments

pub returns : goal.returns
returns c =
    let m : Metadata = c.args.metadata.now in
    let many = ap length c.fragments-fragment-items.ensures.fragments in
    c.loop-number.invariant
    ∙ ap (λ (ys : List ℕ). c.args.costs.now.items ++ ys)
    (take_all c.loop-number.number (costs_of m)
    (omega (arith, many, length-numbered (λ p. cost_of m p.0 p.1) m.fragments)))
