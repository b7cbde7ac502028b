use Rattle.std.proofs.Common.{◌≡◌, ◌-◌}
use Rattle.reh_census_file.specs.Reading.{bookies_at, words_after}
use Rattle.reh_census_file.proofs.ReadLoops.{with_front}
use Rattle.reh_census_file.proofs.words.bookies_at.Given as goal

-- the bookies so far and those that are still read
abbrev pub invariant-loop : goal.invariant-loop
invariant-loop l =
    with_front l.numbers.items (bookies_at l.names (l.count - l.counter) (words_after l.left)) ≡ bookies_at l.names l.count (words_after l.rest)
