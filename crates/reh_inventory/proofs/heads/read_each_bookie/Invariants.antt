-- The bookies so far have no fault; theirs are the names.
use Rattle.std.proofs.Common.{◌≡◌, map, take, length}
use Rattle.serde_json.specs.View.{view}
use Rattle.reh_inventory_fields.specs.declared.places.Place.TheVariants as place
use Rattle.reh_inventory_fields.specs.Faults.{fault_at}
use Rattle.reh_inventory.specs.Heads.{bookie_fault, bookie_in, names_in}
use Rattle.reh_inventory_fields.proofs.Lists.{HasMade}
use Rattle.reh_inventory.proofs.heads.read_each_bookie.Given as goal

abbrev pub invariant-loop-i : goal.invariant-loop-i
invariant-loop-i l = record {
  made : HasMade (λ i before d. fault_at (place.Bookie i) (bookie_fault (names_in before) d)) bookie_in l.bookies l.i
      l.read.items;
  names : l.names ≡ names_in (map view (take l.i l.bookies));
  count : length l.names ≡ l.i;
}
