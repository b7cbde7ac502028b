-- Each of the bookies so far has a number.
use Rattle.std.proofs.Common.{◌≡◌, true, take}
use Rattle.reh_inventory_census.specs.Numbers.{bookies_named}
use Rattle.reh_inventory_census.proofs.numbers.are_named.Given as goal

abbrev pub invariant-loop-bookie : goal.invariant-loop-bookie
invariant-loop-bookie l = bookies_named l.names (take l.bookie-index l.bookies) ≡ true
