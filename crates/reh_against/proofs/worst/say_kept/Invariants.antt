-- What is said of those that are passed, wherever they stand.
use Rattle.std.proofs.Common.{List, map, take, string_bytes}
use Rattle.reh_census.specs.Bookies.{bookies_of, is_flagged}
use Rattle.reh_census.specs.Ledgers.{Ledger}
use Rattle.reh_against.specs.Weighed.{IsAmong, found_of}
use Rattle.reh_against.specs.Worst.{Each, IsAgainst}
use Rattle.reh_against.proofs.worst.say_kept.Given as goal

abbrev pub invariant-loop-one : goal.invariant-loop-one
invariant-loop-one l =
    Each
    (λ kept against.
    (ledgers : List (List Ledger)) → IsAmong ledgers kept
    → IsAgainst (map string_bytes l.stop.names.now) ledgers (bookies_of l.stop.bookies.now) l.stop.question.now.keep (is_flagged l.stop.stopped.now) l.stop.answer.now (found_of kept) against)
    (take l.one-index l.kept) l.against.items
