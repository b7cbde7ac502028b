-- The due tick of the lock is the only difference.
use Rattle.std.proofs.Common.{[], ◌∷◌, ◌+◌, Some, sym, subst}
use Rattle.reh_types.specs.declared.changes.Change.TheVariants.{Lock}
use Rattle.reh_types.specs.declared.moves.Event.TheVariants.{Grace}
use Rattle.reh_model.specs.Cluster.{Cluster}
use Rattle.reh_model.proofs.DeltaLaws.{grace_delta}
use Rattle.reh_step.specs.Records.{IsRecordOf}
use Rattle.reh_step.proofs.RecordLaws.{decided}
use Rattle.reh_step.proofs.records.grace.Goals as goal

pub returns : goal.returns
returns c =
    let s : Cluster = c.args.state.now in
    let found = c.in_ok-found.ensures in
    let k = c.in_ok-found.found.place in
    decided s (Grace c.args.worker c.args.ledger) _ c.one.result found.0 c.one.ensures
    (subst
    (λ due. IsRecordOf s (Grace c.args.worker c.args.ledger) (Lock k (Some (record { owner = c.args.worker; due = Some due })) ∷ [])) (λ i. sym c.clock.ensures.clock i + sym c.grace.ensures i)
    (grace_delta s c.args.worker c.args.ledger k found.1.well_formed found.1.place found.0))
