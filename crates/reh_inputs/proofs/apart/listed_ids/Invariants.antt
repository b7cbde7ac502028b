-- The ids of the ledgers that are passed.
use Rattle.std.proofs.Common.{◌≡◌, map, take}
use Rattle.reh_inputs.proofs.apart.listed_ids.Given as goal

abbrev pub invariant-loop-ledger : goal.invariant-loop-ledger
invariant-loop-ledger l = l.ids.items ≡ map (λ g. g.id) (take l.ledger-index l.ledgers)
