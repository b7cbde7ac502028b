-- The numbers of the members that are passed.
use Rattle.std.proofs.Common.{◌≡◌, map, take}
use Rattle.reh_inventory_census.specs.Counted.{number_in}
use Rattle.reh_inventory_census.proofs.counted.members_of.Given as goal

abbrev pub invariant-loop-name : goal.invariant-loop-name
invariant-loop-name l = l.members.items ≡ map (number_in l.names) (take l.name-index l.ensemble)
