-- The racks of the bookies that are passed.
use Rattle.std.proofs.Common.{◌≡◌, take}
use Rattle.reh_inventory_census.specs.Bookies.{racks_of}
use Rattle.reh_inventory_census.proofs.bookies.racks_of.Given as goal

abbrev pub invariant-loop-bookie : goal.invariant-loop-bookie
invariant-loop-bookie l = l.racks ≡ racks_of (take l.bookie-index l.bookies)
