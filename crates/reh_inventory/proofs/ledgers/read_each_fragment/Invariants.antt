-- The values so far have no fault; theirs are the fragments, and the bounds are those of the next one.
use Rattle.std.proofs.Common.{◌≡◌, ◌≤◌, map, take}
use Rattle.serde_json.specs.View.{view}
use Rattle.reh_inventory_fields.specs.declared.members.TheConstants.{MAX_NUMBER}
use Rattle.reh_inventory.specs.Ledgers.{fragment_fault, fragment_in, bounds_after}
use Rattle.reh_inventory_fields.proofs.Lists.{HasMade}
use Rattle.reh_inventory.proofs.ledgers.read_each_fragment.Given as goal

abbrev pub invariant-loop-i : goal.invariant-loop-i
invariant-loop-i l = record {
  made : HasMade (λ i before d. fragment_fault l.size i (bounds_after before) d) fragment_in l.values l.i
      l.fragments.items;
  bounds : (l.bounds.least, l.bounds.most) ≡ bounds_after (map view (take l.i l.values));
  within : l.bounds.most ≤ MAX_NUMBER;
}
