-- Those that are passed.
use Rattle.std.proofs.Common.{◌≡◌, map, take}
use Rattle.reh_plan.proofs.fewer.metadata_of.Given as goal

abbrev pub invariant-loop-ledger : goal.invariant-loop-ledger
invariant-loop-ledger l = l.all.items ≡ map (λ g. g.metadata) (take l.ledger-index l.ledger-items)
