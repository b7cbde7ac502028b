-- The ledgers so far that have a task or a lock, each no more than these.
use Rattle.std.proofs.Common.{◌≡◌, ◌≤◌, take}
use Rattle.std.specs.Prelude.{count_by}
use Rattle.std.specs.Option.{is_some}
use Rattle.reh_picture_out.proofs.unshown.count_tasks.Given as goal

abbrev pub invariant-loop-ledger : goal.invariant-loop-ledger
invariant-loop-ledger l = record {
  tasks : l.tasks ≡ count_by (λ g. is_some g.task) (take l.ledger-index l.ledgers);
  locks : l.locks ≡ count_by (λ g. is_some g.lock) (take l.ledger-index l.ledgers);
  few : (l.tasks ≤ l.ledger-index) × (l.locks ≤ l.ledger-index);
}
