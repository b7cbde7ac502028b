-- A registration that is lost now is the only difference.
use Rattle.std.proofs.Common.{[], ◌∷◌, Some, sym, subst}
use Rattle.reh_types.specs.declared.changes.Change.TheVariants.{Registration}
use Rattle.reh_types.specs.declared.moves.Event.TheVariants.{Lose}
use Rattle.reh_model.specs.Cluster.{Cluster}
use Rattle.reh_model.proofs.DeltaLaws.{lose_delta}
use Rattle.reh_step.specs.Records.{IsRecordOf}
use Rattle.reh_step.proofs.RecordLaws.{decided}
use Rattle.reh_step.proofs.records.lose.Goals as goal

pub returns : goal.returns
returns c =
    let s : Cluster = c.args.state.now in
    decided s (Lose c.args.bookie) _ c.one.result c.in_ok-check_lose.ensures c.one.ensures
    (subst (λ n. IsRecordOf s (Lose c.args.bookie) (Registration c.args.bookie (Some n) ∷ [])) (sym c.clock.ensures.clock)
    (lose_delta s c.args.bookie c.assert_well_formed.ensures c.in_ok-check_lose.ensures))
