-- Each of the members so far has a number.
use Rattle.std.proofs.Common.{◌≡◌, true, take}
use Rattle.std.specs.List.{list_all}
use Rattle.reh_inventory_census.specs.Numbers.{is_named}
use Rattle.reh_inventory_census.proofs.numbers.has_named_ensemble.Given as goal

abbrev pub invariant-loop-name : goal.invariant-loop-name
invariant-loop-name l = list_all (is_named l.names) (take l.name-index l.fragment.ensemble) ≡ true
