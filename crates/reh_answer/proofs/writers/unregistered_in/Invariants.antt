-- Those of the bookies that are passed.
use Rattle.std.proofs.Common.{◌≡◌}
use Rattle.std.specs.List.{filter}
use Rattle.reh_census.specs.Bookies.{bookies_of, is_flagged}
use Rattle.reh_census.specs.Striping.{range}
use Rattle.reh_answer.specs.Facts.{is_missing}
use Rattle.reh_answer.proofs.writers.unregistered_in.Given as goal

abbrev pub invariant-loop-bookie : goal.invariant-loop-bookie
invariant-loop-bookie l =
    l.names.items
    ≡ filter (is_missing (bookies_of l.bookies) (is_flagged l.stopped)) (range 0 l.bookie)
