-- The metadata is the only difference; the fragment and the index are there, the bookie is no member yet, and there is
-- a next version.
use Rattle.std.proofs.Common.{◌≡◌, get_or}
use Rattle.reh_types.specs.declared.names.Aim.{Aim}
use Rattle.reh_types.specs.declared.moves.Event.TheVariants.{Swap}
use Rattle.reh_model.specs.Metadata.{next_version, with_member_at}
use Rattle.reh_model.specs.Cluster.{Cluster, Ledger}
use Rattle.reh_model.proofs.AcceptedLaws.{IsSwappable}
use Rattle.reh_model.proofs.DeltaLaws.{swappable_there, swap_delta}
use Rattle.reh_step.proofs.RecordLaws.{decided, found_read}
use Rattle.reh_step.proofs.records.swap.Goals as goal

-- what the swap shows of the ledger that stands at the place
may : (c : goal.After-with_member-arg-1)
    → IsSwappable c.args.state.now c.in_ok-found.found.ledger.now c.args.aim.now.worker c.args.aim.now.fragment c.args.aim.now.index
may c =
    let aim : Aim = c.args.aim.now in
    let found = c.in_ok-found.ensures in
    let g : Ledger = c.in_ok-found.found.ledger.now in
    let read : g ≡ get_or c.args.state.now.parts.ledgers c.in_ok-found.found.place g =
    found_read c.args.state.now aim.ledger c.in_ok-found.found found.1 in
    swappable_there c.args.state.now aim.worker aim.ledger aim.fragment aim.index c.args.version
    c.in_ok-found.found.place g found.1.well_formed found.1.place read found.0

pub with_member-requires-clause-fragment : goal.with_member-requires-clause-fragment
with_member-requires-clause-fragment c = rw c.metadata-stored.ensures ((may c).fragment)

pub with_member-requires-clause-index : goal.with_member-requires-clause-index
with_member-requires-clause-index c = rw c.metadata-stored.ensures ((may c).index)

pub with_member-requires-clause-new : goal.with_member-requires-clause-new
with_member-requires-clause-new c = rw c.metadata-stored.ensures ((may c).new)

pub with_member-requires-clause-version : goal.with_member-requires-clause-version
with_member-requires-clause-version c = rw c.metadata-stored.ensures ((may c).version)

pub returns : goal.returns
returns c =
    let s : Cluster = c.args.state.now in
    let aim : Aim = c.args.aim.now in
    let found = c.in_ok-found.ensures in
    let g : Ledger = c.in_ok-found.found.ledger.now in
    let read : g ≡ get_or s.parts.ledgers c.in_ok-found.found.place g =
    found_read s aim.ledger c.in_ok-found.found found.1 in
    let made : c.in_ok-metadata.metadata ≡ next_version (with_member_at g.metadata aim.fragment aim.index aim.worker) =
    rw c.metadata-stored.ensures at c.in_ok-metadata.ensures in
    decided s (Swap aim.worker aim.ledger aim.fragment aim.index c.args.version) _ c.one.result found.0
    c.one.ensures
    (swap_delta s aim.worker aim.ledger aim.fragment aim.index c.args.version c.in_ok-found.found.place g
    c.in_ok-metadata.metadata found.1.well_formed found.1.place read made found.0)
