-- One input more is passed.
use Rattle.std.proofs.Common.{All, List, subst, arith}
use Rattle.std.proofs.lemmas.List.{take_all}
use Rattle.std.proofs.lemmas.List.Elements.{All-more}
use Rattle.reh_model.proofs.ListLaws.{slice_get-there}
use Rattle.reh_inputs.specs.Empties.{EmptiesHoldNothing}
use Rattle.reh_inputs.specs.declared.inputs.Input.{Input}
use Rattle.reh_inputs.proofs.gathered.check_inputs.Goals as goal

pub loop-input-preserved : goal.loop-input-preserved
loop-input-preserved c =
    All-more EmptiesHoldNothing c.args.inputs.now c.loop-input.input c.index-inputs-input.result c.loop-input-test.true
    c.loop-input.invariant
    (subst EmptiesHoldNothing c.index-inputs-input.is c.in-Ok.ensures.nothing)

pub returns-in-Err-clause-fault : goal.returns-in-Err-clause-fault
returns-in-Err-clause-fault c strict =
    c.in-Err.ensures.fault c.args.inputs.now strict
    (slice_get-there c.args.inputs.now c.loop-input.input c.index-inputs-input.result c.loop-input-test.true c.index-inputs-input.is)

pub returns-clause-nothing : goal.returns-clause-nothing
returns-clause-nothing c =
    subst (λ (inputs : List Input). All EmptiesHoldNothing inputs)
    (take_all c.loop-input.input c.args.inputs.now (omega (arith, c.loop-input-test.false))) c.loop-input.invariant
