-- The bookies that are passed have numbers.
use Rattle.std.proofs.Common.{◌≡◌, fold, take}
use Rattle.reh_inventory_census.specs.Numbers.{with_bookie}
use Rattle.reh_inventory_census.proofs.numbers.number_bookies.Given as goal

abbrev pub invariant-loop-bookie : goal.invariant-loop-bookie
invariant-loop-bookie l = l.names ≡ fold with_bookie l.fn.names (take l.bookie-index l.bookie-items)
