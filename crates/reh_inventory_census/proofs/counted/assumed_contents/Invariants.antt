-- What the contents tell that are passed.
use Rattle.std.proofs.Common.{◌≡◌, map, take}
use Rattle.reh_inventory_census.specs.Counted.{assumed_by}
use Rattle.reh_inventory_census.proofs.counted.assumed_contents.Given as goal

abbrev pub invariant-loop-content : goal.invariant-loop-content
invariant-loop-content l = l.counted.items ≡ map (assumed_by l.names l.reading) (take l.content-index l.contents)
