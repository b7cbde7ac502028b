-- AutoRecovery is enabled: that is the only difference.
use Rattle.reh_types.specs.declared.moves.Event.TheVariants.{Enable}
use Rattle.reh_model.proofs.DeltaLaws.{enable_delta}
use Rattle.reh_step.proofs.RecordLaws.{decided}
use Rattle.reh_step.proofs.records.enable.Goals as goal

pub returns : goal.returns
returns c =
    decided c.args.state.now Enable _ c.one.result c.in_ok-check_enable.ensures c.one.ensures
    (enable_delta c.args.state.now c.assert_well_formed.ensures c.in_ok-check_enable.ensures)
