-- The members of the fragments that are passed have numbers.
use Rattle.std.proofs.Common.{◌≡◌, fold, take}
use Rattle.reh_inventory_census.specs.Numbers.{with_ensemble}
use Rattle.reh_inventory_census.proofs.numbers.number_members.Given as goal

abbrev pub invariant-loop-fragment : goal.invariant-loop-fragment
invariant-loop-fragment l = l.names ≡ fold with_ensemble l.fn.names (take l.fragment-index l.fragment-items)
