-- The metadata and the due tick that goes are the only differences; there is a next version.
use Rattle.std.proofs.Common.{◌≡◌}
use Rattle.reh_types.specs.declared.names.LedgerState.TheVariants.{InRecovery}
use Rattle.reh_types.specs.declared.moves.Event.TheVariants.{Fence}
use Rattle.reh_model.specs.Metadata.{next_version, with_state}
use Rattle.reh_model.specs.Cluster.{Cluster, Ledger}
use Rattle.reh_model.proofs.DeltaLaws.{fenceable_there, fence_delta}
use Rattle.reh_step.proofs.RecordLaws.{decided, found_read}
use Rattle.reh_step.proofs.records.fence.Goals as goal

pub fenced-requires : goal.fenced-requires
fenced-requires c =
    let s : Cluster = c.args.state.now in
    let found = c.in_ok-found.ensures in
    let g : Ledger = c.in_ok-found.found.ledger.now in
    record {
      version =
          rw c.metadata.ensures
          ((fenceable_there s c.args.worker c.args.ledger c.in_ok-found.found.place g found.1.well_formed found.1.place (found_read s c.args.ledger c.in_ok-found.found found.1) found.0).version);
    }

pub returns : goal.returns
returns c =
    let s : Cluster = c.args.state.now in
    let found = c.in_ok-found.ensures in
    let g : Ledger = c.in_ok-found.found.ledger.now in
    let made : c.in_ok-fenced.fenced ≡ next_version (with_state g.metadata InRecovery) =
    rw c.metadata.ensures at c.in_ok-fenced.ensures in
    decided s (Fence c.args.worker c.args.ledger) _ c.in_ok-changes.changes found.0 c.in_ok-changes.ensures
    (fence_delta s c.args.worker c.args.ledger c.in_ok-found.found.place g c.in_ok-fenced.fenced found.1.well_formed
    found.1.place (found_read s c.args.ledger c.in_ok-found.found found.1) made found.0)
