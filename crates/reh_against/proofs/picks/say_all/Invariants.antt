-- What is said of those that are passed.
use Rattle.std.proofs.Common.{map, take, string_bytes}
use Rattle.reh_census.specs.Bookies.{bookies_of, is_flagged}
use Rattle.reh_against.specs.Worst.{Each, IsAgainst, alone}
use Rattle.reh_against.proofs.picks.say_all.Given as goal

abbrev pub invariant-loop-found : goal.invariant-loop-found
invariant-loop-found l =
    Each
    (IsAgainst (map string_bytes l.stop.names.now) (map alone l.ledgers) (bookies_of l.stop.bookies.now) l.stop.question.now.keep (is_flagged l.stop.stopped.now) l.stop.answer.now)
    (take l.found-index l.worst) l.against.items
