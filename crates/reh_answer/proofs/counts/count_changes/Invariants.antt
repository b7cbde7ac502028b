-- Those that are passed.
use Rattle.std.proofs.Common.{◌≡◌, take}
use Rattle.reh_census.specs.Bookies.{bookies_of, is_flagged}
use Rattle.reh_answer.specs.Facts.{has_to_change}
use Rattle.reh_census.specs.Counting.{count_tails_in}
use Rattle.reh_answer.proofs.counts.count_changes.Given as goal

abbrev pub invariant-loop-counted : goal.invariant-loop-counted
invariant-loop-counted l = l.ledgers ≡ count_tails_in (take l.counted-index l.tails) (has_to_change (bookies_of l.bookies) (is_flagged l.stopped))
