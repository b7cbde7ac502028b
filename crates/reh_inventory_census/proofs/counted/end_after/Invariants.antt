-- The end of the ranges that are passed.
use Rattle.std.proofs.Common.{◌≡◌, fold, take}
use Rattle.reh_inventory_census.specs.Counted.{end_after}
use Rattle.reh_inventory_census.proofs.counted.end_after.Given as goal

abbrev pub invariant-loop-range : goal.invariant-loop-range
invariant-loop-range l = l.end ≡ fold end_after l.fn.least (take l.range-index l.ranges)
