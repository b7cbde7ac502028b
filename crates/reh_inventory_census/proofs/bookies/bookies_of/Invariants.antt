-- The bookies of the names that are passed.
use Rattle.std.proofs.Common.{◌≡◌, map, take}
use Rattle.reh_inventory_census.specs.Bookies.{bookie_of}
use Rattle.reh_inventory_census.proofs.bookies.bookies_of.Given as goal

abbrev pub invariant-loop-number : goal.invariant-loop-number
invariant-loop-number l = l.counted.items ≡ map (bookie_of l.racks l.bookies) (take l.number l.names)
