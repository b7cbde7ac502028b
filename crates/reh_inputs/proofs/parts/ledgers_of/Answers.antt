-- The ledgers of one input more are there.
use Rattle.std.proofs.Common.{List, ◌++◌, ◌∙◌, ap, sym}
use Rattle.reh_census.specs.Ledgers.{Ledger}
use Rattle.reh_inputs.specs.Gathered.{ledgers_in}
use Rattle.reh_inputs.specs.Inputs.{of_picture}
use Rattle.reh_model.proofs.ListLaws.{slice_get-there}
use Rattle.reh_inputs.proofs.FaultLaws.{input_unfit, passed_on}
use Rattle.reh_inputs.proofs.RangeLaws.{flat_map_more}
use Rattle.reh_inputs.proofs.parts.ledgers_of.Goals as goal

pub loop-input-preserved : goal.loop-input-preserved
loop-input-preserved c =
    let make = of_picture (ledgers_in c.args.names.now c.args.reading) in
    let one = c.index-inputs-input.result in
    c.in_ok-add_ledgers_in.ensures.added
    ∙ ap (λ (xs : List Ledger). xs ++ make one) c.loop-input.invariant
    ∙ sym (flat_map_more c.args.inputs.now c.loop-input.input one c.loop-input-test.true c.index-inputs-input.is make)

pub returns-in_err-add_ledgers_in-clause-fault : goal.returns-in_err-add_ledgers_in-clause-fault
returns-in_err-add_ledgers_in-clause-fault c =
    let fault = c.in_err-add_ledgers_in.field-0.0 in
    passed_on _ _ c.from_residual.result fault c.from_residual.ensures.1
    (input_unfit c.args.names.now c.args.reading c.args.first c.args.inputs.now c.loop-input.input c.index-inputs-input.result
    (slice_get-there c.args.inputs.now c.loop-input.input c.index-inputs-input.result c.loop-input-test.true
    c.index-inputs-input.is)
    fault c.in_err-add_ledgers_in.ensures.fault)
