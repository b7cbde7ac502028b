-- What is found, and what is left to find.
use Rattle.std.proofs.Common.{◌≡◌, ◌<◌, ◌++◌, drop, length}
use Rattle.std.specs.Prelude.{All}
use Rattle.reh_census.specs.Bookies.{bookies_of, is_flagged}
use Rattle.reh_against.specs.Weights.{weight}
use Rattle.reh_against.specs.Worst.{found_from}
use Rattle.reh_against.proofs.picks.found_in.Given as goal

abbrev pub invariant-loop-place : goal.invariant-loop-place
invariant-loop-place l = record {
  found :
      l.found.items
      ++ found_from (weight (bookies_of l.stop.bookies.now) l.stop.question.now (is_flagged l.stop.stopped.now) l.stop.answer.now) l.place (drop l.place l.ids) (drop l.place l.ledgers)
      ≡ found_from (weight (bookies_of l.stop.bookies.now) l.stop.question.now (is_flagged l.stop.stopped.now) l.stop.answer.now) 0 l.ids l.ledgers;
  places : All (λ f. f.place < length l.ledgers) l.found.items;
}
