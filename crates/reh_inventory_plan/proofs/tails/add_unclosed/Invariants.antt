-- Those of the ledgers that are passed.
use Rattle.std.proofs.Common.{◌≡◌, ◌++◌, take}
use Rattle.reh_inventory_plan.specs.Tails.{unclosed}
use Rattle.reh_inventory_plan.proofs.tails.add_unclosed.Given as goal

abbrev pub invariant-loop-ledger : goal.invariant-loop-ledger
invariant-loop-ledger l = l.open.items ≡ l.fn.open.items ++ unclosed (take l.ledger-index l.ledger-items)
