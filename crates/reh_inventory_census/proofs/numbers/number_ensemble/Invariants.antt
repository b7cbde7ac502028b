-- The members that are passed have numbers.
use Rattle.std.proofs.Common.{◌≡◌, fold, take}
use Rattle.reh_census_file.specs.Names.{with_name}
use Rattle.reh_inventory_census.proofs.numbers.number_ensemble.Given as goal

abbrev pub invariant-loop-name : goal.invariant-loop-name
invariant-loop-name l = l.names ≡ fold with_name l.fn.names (take l.name-index l.ensemble)
