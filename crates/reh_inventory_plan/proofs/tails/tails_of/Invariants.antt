-- Those of the ledgers that are passed.
use Rattle.std.proofs.Common.{◌≡◌, take}
use Rattle.reh_inventory_plan.specs.Tails.{closed_empty, closed_short}
use Rattle.reh_inventory_plan.proofs.tails.tails_of.Given as goal

abbrev pub invariant-loop-ledger : goal.invariant-loop-ledger
invariant-loop-ledger l = record {
  empty : l.empty.items ≡ closed_empty l.state (take l.ledger-index l.open);
  short : l.short.items ≡ closed_short l.state (take l.ledger-index l.open);
}
