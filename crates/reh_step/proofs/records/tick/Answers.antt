-- The clock is the only difference.
use Rattle.std.proofs.Common.{[], ◌∷◌, ◌+◌, sym, subst}
use Rattle.reh_types.specs.declared.changes.Change.TheVariants.{Scalar}
use Rattle.reh_types.specs.declared.scalars.Scalar.TheVariants.{Clock}
use Rattle.reh_types.specs.declared.moves.Event.TheVariants.{Tick}
use Rattle.reh_model.specs.Cluster.{Cluster}
use Rattle.reh_model.proofs.DeltaLaws.{tick_delta}
use Rattle.reh_step.specs.Records.{IsRecordOf}
use Rattle.reh_step.proofs.RecordLaws.{decided}
use Rattle.reh_step.proofs.records.tick.Goals as goal

pub returns : goal.returns
returns c =
    let s : Cluster = c.args.state.now in
    decided s (Tick c.args.ticks) _ c.one.result c.in_ok-check_tick.ensures c.one.ensures
    (subst (λ n. IsRecordOf s (Tick c.args.ticks) (Scalar (Clock (n + c.args.ticks)) ∷ [])) (sym c.clock.ensures.clock)
    (tick_delta s c.args.ticks c.assert_well_formed.ensures c.in_ok-check_tick.ensures))
