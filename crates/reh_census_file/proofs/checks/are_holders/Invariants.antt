-- Those that are passed may.
use Rattle.std.proofs.Common.{◌≡◌, drop}
use Rattle.std.specs.List.{list_all}
use Rattle.reh_census.specs.Bookies.{bookies_of, is_holder}
use Rattle.reh_census_file.proofs.checks.are_holders.Given as goal

abbrev pub invariant-loop-number : goal.invariant-loop-number
invariant-loop-number l =
    list_all (is_holder (bookies_of l.bookies)) (drop l.number-index l.numbers) ≡ list_all (is_holder (bookies_of l.bookies)) l.numbers
