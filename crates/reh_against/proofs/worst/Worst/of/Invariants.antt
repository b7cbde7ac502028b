-- Those that are passed are weighed.
use Rattle.std.proofs.Common.{length, map, take}
use Rattle.reh_census.specs.Bookies.{bookies_of, is_flagged}
use Rattle.reh_against.specs.Weighed.{Weighs}
use Rattle.reh_against.specs.Worst.{alone}
use Rattle.reh_against.proofs.worst.Worst.of.Given as goal

abbrev pub invariant-loop-ledger : goal.invariant-loop-ledger
invariant-loop-ledger l =
    Weighs (bookies_of l.stop.bookies.now) l.stop.question.now (is_flagged l.stop.stopped.now) l.stop.answer.now (take (length l.yielded) l.ids) (map alone l.yielded)
    l.worst
