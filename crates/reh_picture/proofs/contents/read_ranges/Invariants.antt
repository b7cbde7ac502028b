-- The values so far have no fault; theirs are the ranges, and the least entry is the one after them.
use Rattle.std.proofs.Common.{◌≡◌, map, take}
use Rattle.serde_json.specs.View.{view}
use Rattle.reh_picture.specs.declared.places.Place.TheVariants as place
use Rattle.reh_picture.specs.Places.{fault_at}
use Rattle.reh_picture.specs.Contents.{range_fault, ends_of, next_after}
use Rattle.reh_picture.proofs.Lists.{HasMade}
use Rattle.reh_picture.proofs.contents.read_ranges.Given as goal

abbrev pub invariant-loop-i : goal.invariant-loop-i
invariant-loop-i l = record {
  made : HasMade (λ i before d. fault_at (place.Range l.content i) (range_fault (next_after before) d)) ends_of l.values
      l.i l.ranges.items;
  least : l.least ≡ next_after (map view (take l.i l.values));
}
