-- Nothing was planned but the first line.
use Rattle.std.proofs.Common.{◌∙◌, [], List, ap, refl, subst, sym}
use Rattle.reh_inventory.specs.Inventories.{Inventory, added_bytes}
use Rattle.reh_inventory_plan.specs.Lines.{AreOutcomes}
use Rattle.reh_inventory_plan.specs.declared.ledgers.Outcome.{Outcome}
use Rattle.reh_inventory_plan.proofs.PlannerLaws.{no_outcomes}
use Rattle.reh_inventory_plan.proofs.planner.Planner.begin.Goals as goal

pub returns : goal.returns
returns c =
    let head = c.in_ok-head.head in
    record {
      inventory =
          ap (λ (inventory : Inventory). added_bytes inventory c.args.first_line.now) (sym c.new-inventory.ensures)
          ∙ c.in_ok-add.ensures.added;
      head = c.in_ok-head.ensures;
      asked_is = refl;
      outcomes =
          subst (λ (outcomes : List Outcome). AreOutcomes head c.args.asked [] outcomes) (sym c.new.ensures.items)
          (no_outcomes head c.args.asked);
    }
