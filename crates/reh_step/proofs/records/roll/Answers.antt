-- The metadata and the due tick that goes are the only differences.
use Rattle.std.proofs.Common.{◌≡◌, ◌-◌, ◌∙◌, ap, ℕ, List, None, length}
use Rattle.reh_types.specs.declared.moves.Event.TheVariants.{Roll}
use Rattle.reh_model.specs.Metadata.{Metadata, Fragment, next_version}
use Rattle.reh_model.specs.Cluster.{Cluster, Ledger}
use Rattle.reh_model.specs.Step.{refusal_of, rolled_metadata}
use Rattle.reh_model.proofs.AcceptedLaws.{IsRollable}
use Rattle.reh_model.proofs.DeltaLaws.{rollable_there, roll_delta}
use Rattle.reh_scan.specs.declared.places.Found.{Found}
use Rattle.reh_scan.specs.Places.{IsFound}
use Rattle.reh_step.proofs.RecordLaws.{decided, found_read}
use Rattle.reh_step.proofs.RollLaws.{rolled_over, rolled_in_place}
use Rattle.reh_step.proofs.records.roll.Goals as goal

-- what the ensemble change shows of the ledger that was found
may : (s : Cluster) (l i b : ℕ) (found : Found) → IsFound s l found → refusal_of s (Roll l i b) ≡ None
    → IsRollable s found.ledger.now i b
may s l i b found is none =
    rollable_there s l i b found.place found.ledger.now is.well_formed is.place (found_read s l found is) none

pub with_fragment-requires-clause-first : goal.with_fragment-requires-clause-first
with_fragment-requires-clause-first c =
    let found = c.in_ok-found.ensures in
    rw found.1.1
    ((may c.args.state.now c.args.ledger c.args.index c.args.bookie c.in_ok-found.found found.1.0 found.0).next)

pub with_fragment-requires-clause-version : goal.with_fragment-requires-clause-version
with_fragment-requires-clause-version c =
    let found = c.in_ok-found.ensures in
    rw c.metadata-metadata.ensures
    ((may c.args.state.now c.args.ledger c.args.index c.args.bookie c.in_ok-found.found found.1.0 found.0).version)

pub returns-then-next-last_fragment : goal.returns-then-next-last_fragment
returns-then-next-last_fragment c =
    let s : Cluster = c.args.state.now in
    let found = c.in_ok-found.ensures in
    let g : Ledger = c.in_ok-found.found.ledger.now in
    let made : c.in_ok-rolled.rolled ≡ next_version (rolled_metadata s c.args.index c.args.bookie g) =
    rolled_over s g c.in_ok-found.next c.behind-found.inside.first found.1.1
    (ap (λ (x : Fragment). x.first) (c.behind-found.view_is ∙ c.last_fragment.ensures.last))
    c.args.index c.args.bookie c.metadata-metadata.result.now c.in_ok-rolled.rolled c.metadata-metadata.ensures
    c.if-next-last_fragment.true c.in_ok-rolled.ensures in
    decided s (Roll c.args.ledger c.args.index c.args.bookie) _ c.in_ok-changes.changes found.0 c.in_ok-changes.ensures
    (roll_delta s c.args.ledger c.args.index c.args.bookie c.in_ok-found.found.place g c.in_ok-rolled.rolled
    found.1.0.well_formed found.1.0.place (found_read s c.args.ledger c.in_ok-found.found found.1.0) made found.0)

pub returns : goal.returns
returns c =
    let s : Cluster = c.args.state.now in
    let found = c.in_ok-found.ensures in
    let g : Ledger = c.in_ok-found.found.ledger.now in
    let last : length c.fragments.result.now - 1 ≡ length g.metadata.fragments - 1 =
    ap (λ (fs : List Fragment). length fs - 1)
    (c.fragments.ensures.fragments ∙ ap (λ (m : Metadata). m.fragments) c.metadata-metadata.ensures) in
    let made : c.in_ok-rolled-2.rolled ≡ next_version (rolled_metadata s c.args.index c.args.bookie g) =
    rolled_in_place s g c.in_ok-found.next c.behind-found.inside.first found.1.1
    (ap (λ (x : Fragment). x.first) (c.behind-found.view_is ∙ c.last_fragment.ensures.last))
    c.args.index c.args.bookie c.metadata-metadata.result.now c.in_ok-rolled-2.rolled c.metadata-metadata.ensures
    (length c.fragments.result.now - 1) last c.if-next-last_fragment.false c.in_ok-rolled-2.ensures in
    decided s (Roll c.args.ledger c.args.index c.args.bookie) _ c.in_ok-changes-2.changes found.0
    c.in_ok-changes-2.ensures
    (roll_delta s c.args.ledger c.args.index c.args.bookie c.in_ok-found.found.place g c.in_ok-rolled-2.rolled
    found.1.0.well_formed found.1.0.place (found_read s c.args.ledger c.in_ok-found.found found.1.0) made found.0)
