-- None of the ranges so far covers them.
use Rattle.std.proofs.Common.{◌≡◌, false, take}
use Rattle.std.specs.List.{list_any}
use Rattle.reh_inventory_census.specs.Counted.{covers}
use Rattle.reh_inventory_census.proofs.counted.covers.Given as goal

abbrev pub invariant-loop-range : goal.invariant-loop-range
invariant-loop-range l = list_any (covers l.end) (take l.range-index l.ranges) ≡ false
