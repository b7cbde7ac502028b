-- Those of the ledgers that are passed.
use Rattle.std.proofs.Common.{◌≡◌, take}
use Rattle.reh_census.specs.Bookies.{bookies_of, is_flagged}
use Rattle.reh_census.specs.Counting.{count_tails_in}
use Rattle.reh_census.specs.Tails.{breaks_recoverable, breaks_writable}
use Rattle.reh_rules.proofs.tails.count_tails.Given as goal

abbrev pub invariant-loop-counted : goal.invariant-loop-counted
invariant-loop-counted l = record {
  recoverable : l.recoverable
      ≡ count_tails_in (take l.counted-index l.tails) (breaks_recoverable (bookies_of l.bookies) l.question (is_flagged l.stopped));
  writable : l.writable
      ≡ count_tails_in (take l.counted-index l.tails) (breaks_writable (bookies_of l.bookies) l.question (is_flagged l.stopped));
}
