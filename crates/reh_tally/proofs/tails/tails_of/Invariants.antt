-- The tails of the ledgers that are passed.
use Rattle.std.proofs.Common.{take}
use Rattle.std.specs.Prelude.{All}
use Rattle.reh_census.specs.Counting.{CountsTails}
use Rattle.reh_census.specs.Tails.{IsTail}
use Rattle.reh_tally.proofs.tails.tails_of.Given as goal

abbrev pub invariant-loop-ledger : goal.invariant-loop-ledger
invariant-loop-ledger l = record {
  counts : CountsTails l.tails.items (take l.ledger-index l.ledgers);
  well_formed : All (λ t. IsTail t.tail) l.tails.items;
}
