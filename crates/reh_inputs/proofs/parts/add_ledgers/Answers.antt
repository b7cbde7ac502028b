-- One ledger more is there.
use Rattle.std.proofs.Common.{List, ◌++◌, ◌∷◌, [], ◌∙◌, ap, sym, map, take, append_assoc}
use Rattle.reh_census.specs.Ledgers.{Ledger}
use Rattle.reh_inputs.specs.Gathered.{ledger_in}
use Rattle.reh_inputs.proofs.FaultLaws.{ledger_unfit, passed_on}
use Rattle.reh_inputs.proofs.RangeLaws.{map_more}
use Rattle.reh_inputs.proofs.parts.add_ledgers.Goals as goal

pub loop-ledger-preserved : goal.loop-ledger-preserved
loop-ledger-preserved c =
    let make = ledger_in c.args.numbers.now c.args.reading c.args.listed.now in
    let before = c.args.ledgers.now.items in
    let listed = c.deref-ledger-items.result.now in
    let k = c.loop-ledger.ledger-index in
    let one = c.ledger-item.result in
    c.in_ok-add_ledger.ensures.added
    ∙ ap (λ (xs : List Ledger). xs ++ make one ∷ []) c.loop-ledger.invariant
    ∙ append_assoc before (map make (take k listed)) (make one ∷ [])
    ∙ sym (ap (λ (xs : List Ledger). before ++ xs) (map_more listed k one c.loop-ledger-test.true c.ledger-item.is make))

pub returns-in_err-add_ledger-clause-fault : goal.returns-in_err-add_ledger-clause-fault
returns-in_err-add_ledger-clause-fault c =
    let fault = c.in_err-add_ledger.field-0.0 in
    passed_on _ _ c.from_residual-in_err-add_ledger.result fault c.from_residual-in_err-add_ledger.ensures.1
    (ledger_unfit c.args.numbers.now c.args.reading c.args.listed.now c.args.input c.loop-ledger.ledger-index
    c.ledger-item.result c.deref-ledger-items.result.now c.deref-ledger-items.ensures.value c.loop-ledger-test.true
    c.ledger-item.is fault c.in_err-add_ledger.ensures.fault)
