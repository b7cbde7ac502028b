-- The ids of one input more can't join those before.
use Rattle.reh_model.proofs.ListLaws.{slice_get-there}
use Rattle.reh_inputs.specs.Gathered.{ids_in}
use Rattle.reh_inputs.specs.Inputs.{of_picture}
use Rattle.reh_inputs.proofs.FaultLaws.{ids_fault, passed_on}
use Rattle.reh_inputs.proofs.RangeLaws.{joined}
use Rattle.reh_inputs.proofs.gathered.each_id.Goals as goal

pub loop-input-preserved : goal.loop-input-preserved
loop-input-preserved c =
    joined (of_picture ids_in) c.args.inputs.now c.loop-input.input c.index-inputs-input.result c.loop-input.ids.keys
    c.add_ids_of.new.ids.keys c.loop-input-test.true c.index-inputs-input.is c.in_ok-add_ids_of.ensures.added c.loop-input.invariant

pub returns-in_err-add_ids_of-clause-fault : goal.returns-in_err-add_ids_of-clause-fault
returns-in_err-add_ids_of-clause-fault c =
    let inputs = c.args.inputs.now in
    let k = c.loop-input.input in
    let one = c.index-inputs-input.result in
    let fault = c.in_err-add_ids_of.field-0.0 in
    passed_on _ _ c.from_residual.result fault c.from_residual.ensures.1
    (λ strict.
    ids_fault inputs strict k one c.loop-input.ids.keys
    (slice_get-there inputs k one c.loop-input-test.true c.index-inputs-input.is) c.loop-input.invariant fault
    c.in_err-add_ids_of.ensures.fault)
