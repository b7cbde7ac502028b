-- The census of the lines that were counted, and the ids of their ledgers.
use Rattle.std.proofs.Common.{◌∙◌, ap, not}
use Rattle.reh_inventory.specs.Inventories.{Inventory}
use Rattle.reh_inventory_read.proofs.counting.finish.Goals as goal

pub returns-in-Ok : goal.returns-in-Ok
returns-in-Ok c = λ strict names old new was. record {
  first = was.first;
  lines = was.lines;
  counted = c.in-Ok.ensures names strict was.first was.lines was.counted;
  all = was.read;
  said = c.args.count.inventory;
  is_read = was.counted.inventory;
  ids =
      c.in_ok-ids.ensures.items
      ∙ c.ids.ensures
      ∙ ap (λ (inventory : Inventory). inventory.ids) c.inventory.ensures;
  cut = ap not (c.is_whole-is_cut.ensures ∙ ap (λ (inventory : Inventory). inventory.is_whole) c.inventory-2.ensures);
}
