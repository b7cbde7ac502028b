-- The entries of the ledgers that are passed.
use Rattle.std.proofs.Common.{take}
use Rattle.reh_census.specs.Counting.{CountsEntries}
use Rattle.reh_tally.specs.Members.{names_of}
use Rattle.reh_tally.proofs.segments.entries_of.Given as goal

abbrev pub invariant-loop-ledger : goal.invariant-loop-ledger
invariant-loop-ledger l = CountsEntries l.census.items (names_of l.bookies) (take l.ledger-index l.ledgers)
