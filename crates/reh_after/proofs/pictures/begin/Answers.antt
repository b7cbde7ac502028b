-- What is opened on the picture, and what it lists, or why it isn't listed.
use Rattle.reh_after.specs.Faults.{IsBeginFault}
use Rattle.reh_after.proofs.AfterLaws.{not_listed, passed_on}
use Rattle.reh_after.proofs.pictures.begin.Goals as goal

pub returns-clause-begun : goal.returns-clause-begun
returns-clause-begun c = record {
  opened = c.in_ok-names.ensures.opened;
  lists = c.in_ok-marked.ensures.listed;
}

pub returns-in_err-marked-clause-fault : goal.returns-in_err-marked-clause-fault
returns-in_err-marked-clause-fault c =
    passed_on c.from_residual-in_err-marked.result (IsBeginFault c.args.picture.now) _ c.from_residual-in_err-marked.ensures.1
    (not_listed c.args.picture.now c.in_err-marked.field-0.0 _ c.in_err-marked.ensures.fault)
