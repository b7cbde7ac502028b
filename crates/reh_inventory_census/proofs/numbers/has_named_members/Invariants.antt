-- Each member of the ensembles so far has a number.
use Rattle.std.proofs.Common.{◌≡◌, true, take}
use Rattle.std.specs.List.{list_all}
use Rattle.reh_inventory_census.specs.Numbers.{ensemble_named}
use Rattle.reh_inventory_census.proofs.numbers.has_named_members.Given as goal

abbrev pub invariant-loop-fragment : goal.invariant-loop-fragment
invariant-loop-fragment l = list_all (ensemble_named l.names) (take l.fragment-index l.line.fragments) ≡ true
