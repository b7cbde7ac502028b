-- What the contents tell that are passed.
use Rattle.std.proofs.Common.{◌≡◌, map, take}
use Rattle.reh_inventory_census.specs.Counted.{content_by}
use Rattle.reh_inventory_census.proofs.counted.contents_of.Given as goal

abbrev pub invariant-loop-content : goal.invariant-loop-content
invariant-loop-content l = l.counted.items ≡ map (content_by l.names l.reading) (take l.content-index l.contents)
