-- A first line was read, and no other.
use Rattle.std.proofs.Common.{ℕ, List, [], subst}
use Rattle.reh_inventory_read.proofs.LineLaws.{into_none, reads_one, some_bytes}
use Rattle.reh_inventory_plan.specs.Lines.{IsPlanning}
use Rattle.reh_inventory_plan.proofs.inventories.plan_first.Goals as goal

pub returns-in-Ok : goal.returns-in-Ok
returns-in-Ok g c =
    let line = c.read_line.new.line in
    record {
      first = line.items;
      lines = [];
      planning =
          subst (λ (bytes : List ℕ). IsPlanning c.args.asked bytes [] c.in-Ok.planner) c.deref.ensures.value c.in-Ok.ensures;
      read =
          reads_one _ _ line.items (into_none _ _ _ c.new-line.ensures.items c.in_ok-read_line.ensures.line) c.in_ok-read_line.ensures.rest
          (some_bytes line.items _ _ line.ok.0 c.is_empty.ensures c.if-is_empty.false);
    }
