-- The values so far have no fault; theirs are the ranges, and the least entry is the one after them.
use Rattle.std.proofs.Common.{◌≡◌, map, take}
use Rattle.serde_json.specs.View.{view}
use Rattle.reh_inventory_fields.specs.declared.places.Place.TheVariants as place
use Rattle.reh_inventory_fields.specs.Faults.{fault_at}
use Rattle.reh_inventory.specs.Contents.{range_fault, range_in, next_after}
use Rattle.reh_inventory_fields.proofs.Lists.{HasMade}
use Rattle.reh_inventory.proofs.contents.read_ranges.Given as goal

abbrev pub invariant-loop-i : goal.invariant-loop-i
invariant-loop-i l = record {
  made : HasMade
      (λ i before d. fault_at (place.Range l.content l.field i) (range_fault l.field (next_after l.field before) d))
      (range_in l.field) l.values l.i l.ranges.items;
  least : l.least ≡ next_after l.field (map view (take l.i l.values));
}
