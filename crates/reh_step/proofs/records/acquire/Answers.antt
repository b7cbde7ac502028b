-- The lock is the only difference.
use Rattle.reh_types.specs.declared.moves.Event.TheVariants.{Acquire}
use Rattle.reh_model.proofs.DeltaLaws.{acquire_delta}
use Rattle.reh_step.proofs.RecordLaws.{decided}
use Rattle.reh_step.proofs.records.acquire.Goals as goal

pub returns : goal.returns
returns c =
    let found = c.in_ok-found.ensures in
    decided c.args.state.now (Acquire c.args.worker c.args.ledger) _ c.one.result found.0
    c.one.ensures
    (acquire_delta c.args.state.now c.args.worker c.args.ledger c.in_ok-found.found.place found.1.well_formed
    found.1.place found.0)
