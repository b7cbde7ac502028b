-- What a check finds is told.
use Rattle.reh_inputs.proofs.FaultLaws.{passed_on}
use Rattle.reh_inputs.proofs.gathered.checked_cluster.Goals as goal

pub returns-in_err-check_strict-clause-fault : goal.returns-in_err-check_strict-clause-fault
returns-in_err-check_strict-clause-fault c =
    passed_on _ _ c.from_residual.result c.in_err-check_strict.field-0.0 c.from_residual.ensures.1
    c.in_err-check_strict.ensures.fault

pub returns-in_err-cluster-clause-fault : goal.returns-in_err-cluster-clause-fault
returns-in_err-cluster-clause-fault c =
    passed_on _ _ c.from_residual-in_err-cluster.result c.in_err-cluster.field-0.0 c.from_residual-in_err-cluster.ensures.1
    (c.in_err-cluster.ensures.fault c.args.strict)

pub returns-in_err-check_inputs-clause-fault : goal.returns-in_err-check_inputs-clause-fault
returns-in_err-check_inputs-clause-fault c =
    passed_on _ _ c.from_residual-in_err-check_inputs.result c.in_err-check_inputs.field-0.0
    c.from_residual-in_err-check_inputs.ensures.1 (c.in_err-check_inputs.ensures.fault c.args.strict)
