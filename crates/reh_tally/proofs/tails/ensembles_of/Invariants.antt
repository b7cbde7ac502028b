-- The ensembles of the ledgers that are passed.
use Rattle.std.proofs.Common.{take}
use Rattle.reh_census.specs.Counting.{CountsEnsembles}
use Rattle.reh_tally.proofs.tails.ensembles_of.Given as goal

abbrev pub invariant-loop-ledger : goal.invariant-loop-ledger
invariant-loop-ledger l = CountsEnsembles l.ensembles.items (take l.ledger-index l.ledgers)
