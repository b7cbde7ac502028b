-- The values so far have no fault; theirs are the ledgers and the ids.
use Rattle.std.proofs.Common.{◌≡◌, map, take}
use Rattle.serde_json.specs.View.{view}
use Rattle.reh_picture.specs.Ledgers.{ledger_fault, listed_in, ids_in}
use Rattle.reh_picture.proofs.Lists.{HasMade}
use Rattle.reh_picture.proofs.ledgers.read_each_ledger.Given as goal

abbrev pub invariant-loop-i : goal.invariant-loop-i
invariant-loop-i l = record {
  made : HasMade (λ i before d. ledger_fault l.names i (ids_in before) d) (listed_in l.names) l.values l.i
      l.ledgers.listed.items;
  ids : l.ledgers.ids.keys ≡ ids_in (map view (take l.i l.values));
}
