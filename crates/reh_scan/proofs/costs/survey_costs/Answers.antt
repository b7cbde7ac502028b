-- As many as there are lines.
use Rattle.std.proofs.Common.{◌∙◌, ℕ, List, [], ◌∷◌, ◌++◌, ap, sym, length, take}
use Rattle.std.specs.List.{flat_map}
use Rattle.std.proofs.lemmas.List.{take_all, take_more, flat_map_more}
use Rattle.reh_model.specs.Metadata.{Metadata}
use Rattle.reh_model.specs.Cluster.{Ledger}
use Rattle.reh_scan.specs.Costs.{costs_of}
use Rattle.reh_scan.proofs.PlaceLaws.{length-costs}
use Rattle.reh_scan.proofs.costs.survey_costs.Goals as goal

pub loop-ledger-preserved : goal.loop-ledger-preserved
loop-ledger-preserved c =
    let ledgers : List Ledger = c.ledgers-ledger-items.result.now in
    let i : ℕ = c.loop-ledger.ledger-index in
    let g : Ledger = c.ledger-item.result in
    let costs : Ledger → List ℕ = λ (g : Ledger). costs_of g.metadata in
    c.in_ok-push_costs.ensures
    ∙ ap (λ (cs : List ℕ). cs ++ costs_of c.metadata.result.now) c.loop-ledger.invariant
    ∙ ap (λ (m : Metadata). flat_map costs (take i ledgers) ++ costs_of m) c.metadata.ensures
    ∙ flat_map_more costs [] (take i ledgers) g
    ∙ ap (λ (gs : List Ledger). flat_map costs gs)
    (ap (λ (h : Ledger). take i ledgers ++ h ∷ []) c.ledger-item.is
    ∙ sym (take_more ledgers i g c.loop-ledger-test.true))

pub returns-clause-count : goal.returns-clause-count
returns-clause-count c =
    let ledgers : List Ledger = c.ledgers-ledger-items.result.now in
    ap length
    (c.loop-ledger.invariant
    ∙ ap (λ (gs : List Ledger). flat_map (λ g. costs_of g.metadata) gs)
    (take_all c.loop-ledger.ledger-index ledgers c.loop-ledger-test.false
    ∙ c.ledgers-ledger-items.ensures.ledgers))
    ∙ length-costs c.args.state.now c.args.state.now.parts.ledgers
