-- A new registration is the only difference.
use Rattle.reh_types.specs.declared.moves.Event.TheVariants.{Join}
use Rattle.reh_model.proofs.DeltaLaws.{join_delta}
use Rattle.reh_step.proofs.RecordLaws.{decided}
use Rattle.reh_step.proofs.records.join.Goals as goal

pub returns : goal.returns
returns c =
    decided c.args.state.now (Join c.args.bookie) _ c.one.result c.in_ok-check_join.ensures
    c.one.ensures
    (join_delta c.args.state.now c.args.bookie c.assert_well_formed.ensures c.in_ok-check_join.ensures)
