-- AutoRecovery is disabled: that is the only difference.
use Rattle.reh_types.specs.declared.moves.Event.TheVariants.{Disable}
use Rattle.reh_model.proofs.DeltaLaws.{disable_delta}
use Rattle.reh_step.proofs.RecordLaws.{decided}
use Rattle.reh_step.proofs.records.disable.Goals as goal

pub returns : goal.returns
returns c =
    decided c.args.state.now Disable _ c.one.result c.in_ok-check_disable.ensures c.one.ensures
    (disable_delta c.args.state.now c.assert_well_formed.ensures c.in_ok-check_disable.ensures)
