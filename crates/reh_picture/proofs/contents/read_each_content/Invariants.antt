-- The values so far have no fault; theirs are the holdings, and the pairs of bookie and ledger.
use Rattle.std.proofs.Common.{◌≡◌, map, take}
use Rattle.serde_json.specs.View.{view}
use Rattle.reh_picture.specs.Contents.{content_fault, holding_in, pairs_in}
use Rattle.reh_picture.proofs.Lists.{HasMade}
use Rattle.reh_picture.proofs.contents.read_each_content.Given as goal

abbrev pub invariant-loop-i : goal.invariant-loop-i
invariant-loop-i l = record {
  made : HasMade (λ i before d. content_fault l.names l.ids.keys i (pairs_in l.names before) d) (holding_in l.names)
      l.values l.i l.holdings.items;
  pairs : l.pairs.keys ≡ pairs_in l.names (map view (take l.i l.values));
}
