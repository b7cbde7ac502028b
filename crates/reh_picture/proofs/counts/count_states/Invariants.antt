-- The ledgers so far that are in each state, each no more than these.
use Rattle.std.proofs.Common.{◌≡◌, ◌≤◌, take}
use Rattle.std.specs.Prelude.{count_by}
use Rattle.reh_model.specs.Metadata as meta
use Rattle.reh_picture.specs.Counts.{is_closed}
use Rattle.reh_picture.proofs.counts.count_states.Given as goal

abbrev pub invariant-loop-ledger : goal.invariant-loop-ledger
invariant-loop-ledger l = record {
  is_open : l.open ≡ count_by (λ g. meta.is_open g.metadata.state) (take l.ledger-index l.ledgers);
  in_recovery : l.in_recovery ≡ count_by (λ g. meta.is_in_recovery g.metadata.state) (take l.ledger-index l.ledgers);
  closed : l.closed ≡ count_by (λ g. is_closed g.metadata.state) (take l.ledger-index l.ledgers);
  few : (l.open ≤ l.ledger-index) × (l.in_recovery ≤ l.ledger-index) × (l.closed ≤ l.ledger-index);
}
