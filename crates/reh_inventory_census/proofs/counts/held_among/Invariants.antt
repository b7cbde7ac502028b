-- Those of the classes that are passed.
use Rattle.std.proofs.Common.{◌≡◌, take}
use Rattle.reh_census.specs.Counting.{count_in}
use Rattle.reh_inventory_census.specs.Counting.{is_held}
use Rattle.reh_inventory_census.proofs.counts.held_among.Given as goal

abbrev pub invariant-loop-counted : goal.invariant-loop-counted
invariant-loop-counted l = l.held ≡ count_in (take l.counted-index l.entries) is_held
