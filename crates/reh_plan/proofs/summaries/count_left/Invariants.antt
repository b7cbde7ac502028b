-- Those of the ledgers that are passed.
use Rattle.std.proofs.Common.{◌≡◌, ◌≤◌, take}
use Rattle.std.specs.Prelude.{count_by}
use Rattle.reh_plan.specs.Plans.{is_left}
use Rattle.reh_plan.proofs.summaries.count_left.Given as goal

abbrev pub invariant-loop-ledger : goal.invariant-loop-ledger
invariant-loop-ledger l = record {
  counted : l.count ≡ count_by (is_left l.state) (take l.ledger-index l.ledger-items);
  within : l.count ≤ l.ledger-index;
}
