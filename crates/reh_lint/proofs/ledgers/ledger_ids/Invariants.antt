-- The ids so far.
use Rattle.std.proofs.Common.{◌≡◌, map, take}
use Rattle.reh_lint.proofs.ledgers.ledger_ids.Given as goal

abbrev pub invariant-loop-ledger : goal.invariant-loop-ledger
invariant-loop-ledger l = l.ids.items ≡ map (λ g. g.id) (take l.ledger-index l.ledger-items)
