-- The metadata and the words that the registered members get are the only differences.
use Rattle.std.proofs.Common.{◌<◌, ◌≤◌, ℕ, List, length, ap, arith}
use Rattle.reh_types.specs.Sets.{union}
use Rattle.reh_types.specs.declared.moves.Event.TheVariants.{Seal}
use Rattle.reh_held.specs.Turns.{IsTurning}
use Rattle.reh_model.specs.Contents.{copies_of}
use Rattle.reh_model.specs.Cluster.{Cluster, Ledger, words_among}
use Rattle.reh_model.proofs.LedgerLaws.{id_found}
use Rattle.reh_model.proofs.RecoveryLaws.{first_before_end}
use Rattle.reh_model.proofs.WellFormedLaws.{recovered_end-within}
use Rattle.reh_model.proofs.DeltaLaws.{sealable_there}
use Rattle.reh_step.proofs.RecordLaws.{decided, found_read}
use Rattle.reh_step.proofs.SealLaws.{sealed_start, sealed_more, seal_delta, recovered_within}
use Rattle.reh_step.proofs.records.seal.Goals as goal

pub sealed-requires-clause-last : goal.sealed-requires-clause-last
sealed-requires-clause-last c =
    rw (c.metadata.ensures, c.in_ok-found.ensures.1.1)
    (first_before_end c.args.state.now c.in_ok-found.found.ledger.now)

pub sealed-requires-clause-end : goal.sealed-requires-clause-end
sealed-requires-clause-end c =
    let found = c.in_ok-found.ensures in
    rw found.1.1
    (recovered_end-within c.args.state.now c.args.ledger c.in_ok-found.found.ledger.now found.1.0.well_formed
    found.1.0.ledger)

pub sealed-requires-clause-version : goal.sealed-requires-clause-version
sealed-requires-clause-version c =
    let s : Cluster = c.args.state.now in
    let found = c.in_ok-found.ensures in
    rw c.metadata.ensures
    ((sealable_there s c.args.worker c.args.ledger c.in_ok-found.found.place c.in_ok-found.found.ledger.now found.1.0.well_formed found.1.0.place (found_read s c.args.ledger c.in_ok-found.found found.1.0) found.0).version)

pub loop-bookie-init : goal.loop-bookie-init
loop-bookie-init c =
    let s : Cluster = c.args.state.now in
    let found = c.in_ok-found.ensures in
    rw (c.in_ok-push.ensures, c.new-list.ensures.items, c.in_ok-metadata.ensures, c.metadata.ensures, found.1.1)
    (sealed_start s c.args.ledger c.in_ok-found.found.place c.in_ok-found.found.ledger.now found.1.0.well_formed
    found.1.0.place (found_read s c.args.ledger c.in_ok-found.found found.1.0))

pub delta_of-requires-clause-entries : goal.delta_of-requires-clause-entries
delta_of-requires-clause-entries c =
    let s : Cluster = c.args.state.now in
    let g : Ledger = c.in_ok-found.found.ledger.now in
    let found = c.in_ok-found.ensures in
    recovered_within s c.args.ledger g c.loop-bookie.bookie c.recovered_by-entries.result found.1.0.well_formed
    (id_found c.args.ledger s.parts.ledgers g found.1.0.ledger) c.recovered_by-entries.ensures

pub loop-bookie-preserved : goal.loop-bookie-preserved
loop-bookie-preserved c =
    let s : Cluster = c.args.state.now in
    let l : ℕ = c.args.ledger in
    let g : Ledger = c.in_ok-found.found.ledger.now in
    let named : c.loop-bookie.bookie < length s.names =
    omega (
      arith,
      c.loop-bookie-test.true,
      c.len-bookie-end.ensures.count,
      ap (λ (names : List (List ℕ)). length names)
          c.names.ensures.names,
    ) in
    let turning : IsTurning (words_among s.parts.ledgers l) c.loop-bookie.bookie l s.parts.held
    (union s.parts.held (copies_of c.loop-bookie.bookie l c.recovered_by-entries.result)) c.deref.result.now = rw
    c.deref.ensures.value c.in_ok-turns.ensures in
    sealed_more s l c.in_ok-found.found.place g c.loop-bookie.bookie c.loop-bookie.list.items c.recovered_by-entries.result
    c.deref.result.now c.push_words.new.list.items
    (id_found l s.parts.ledgers g c.in_ok-found.ensures.1.0.ledger) named
    c.recovered_by-entries.ensures turning c.loop-bookie.invariant c.in_ok-push_words.ensures

pub returns : goal.returns
returns c =
    let s : Cluster = c.args.state.now in
    let found = c.in_ok-found.ensures in
    let past : length s.names ≤ c.loop-bookie.bookie =
    omega (
      arith,
      c.loop-bookie-test.false,
      c.len-bookie-end.ensures.count,
      ap (λ (names : List (List ℕ)). length names)
          c.names.ensures.names,
    ) in
    decided s (Seal c.args.worker c.args.ledger) _ c.of.result found.0 c.of.ensures
    (seal_delta s c.args.worker c.args.ledger c.in_ok-found.found.place c.in_ok-found.found.ledger.now
    c.loop-bookie.bookie c.loop-bookie.list.items found.1.0.well_formed found.1.0.place
    (found_read s c.args.ledger c.in_ok-found.found found.1.0) found.0 past c.loop-bookie.invariant)
