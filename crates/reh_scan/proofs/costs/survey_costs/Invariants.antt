-- What there is to read for the ledgers so far.
use Rattle.std.proofs.Common.{◌≡◌, take}
use Rattle.std.specs.List.{flat_map}
use Rattle.reh_scan.specs.Costs.{costs_of}
use Rattle.reh_scan.proofs.costs.survey_costs.Given as goal

abbrev pub invariant-loop-ledger : goal.invariant-loop-ledger
invariant-loop-ledger l = l.costs.items ≡ flat_map (λ g. costs_of g.metadata) (take l.ledger-index l.ledger-items)
