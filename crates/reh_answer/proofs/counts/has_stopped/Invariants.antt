-- None of those that are passed is.
use Rattle.std.proofs.Common.{◌≡◌, drop}
use Rattle.std.specs.List.{list_any}
use Rattle.reh_census.specs.Bookies.{bookies_of, is_flagged}
use Rattle.reh_answer.specs.Facts.{is_stopped_up}
use Rattle.reh_answer.proofs.counts.has_stopped.Given as goal

abbrev pub invariant-loop-name : goal.invariant-loop-name
invariant-loop-name l =
    list_any (is_stopped_up (bookies_of l.bookies) (is_flagged l.stopped)) (drop l.name-index l.names)
    ≡ list_any (is_stopped_up (bookies_of l.bookies) (is_flagged l.stopped)) l.names
