-- The names of the racks of the bookies so far, of which there are no more than there can be.
use Rattle.std.proofs.Common.{◌≡◌, ◌≤◌, map, take}
use Rattle.std.specs.Option.{option_map}
use Rattle.reh_types.specs.declared.limits.TheConstants.{MAX_BOOKIES}
use Rattle.reh_inventory_plan.proofs.pictures.racks_of.Given as goal

abbrev pub invariant-loop-number : goal.invariant-loop-number
invariant-loop-number l = record {
  few : l.number ≤ MAX_BOOKIES;
  racks : map (option_map (λ name. name.now)) l.names.items ≡ map (λ m. m.rack) (take l.number l.marks);
}
