-- The values so far have no fault; theirs are the contents, and the names of their bookies.
use Rattle.std.proofs.Common.{◌≡◌, map, take, length}
use Rattle.serde_json.specs.View.{view}
use Rattle.reh_inventory.specs.Contents.{content_fault, content_in, bookies_in}
use Rattle.reh_inventory_fields.proofs.Lists.{HasMade}
use Rattle.reh_inventory.proofs.contents.read_each_content.Given as goal

abbrev pub invariant-loop-i : goal.invariant-loop-i
invariant-loop-i l = record {
  made : HasMade (λ i before d. content_fault i (bookies_in before) d) content_in l.values l.i l.contents.items;
  names : l.names ≡ bookies_in (map view (take l.i l.values));
  count : length l.names ≡ l.i;
}
