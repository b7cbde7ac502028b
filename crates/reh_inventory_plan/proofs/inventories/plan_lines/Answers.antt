-- The plans for the ledgers of the lines that were read.
use Rattle.std.proofs.Common.{true, false, ◌++◌, ◌∷◌}
use Rattle.reh_inventory_read.specs.Passes.{AddsRead}
use Rattle.reh_inventory_read.proofs.LineLaws.{reads_further}
use Rattle.reh_inventory_plan.specs.Lines.{GoesOn, IsPlanningOf}
use Rattle.reh_inventory_plan.proofs.inventories.plan_lines.Goals as goal

pub returns : goal.returns
returns g c =
    let old = g.B.Read.remaining c.args.reader.now in
    let left = g.B.Read.remaining c.plan_first.new.reader in
    let new = g.B.Read.remaining c.add_all.new.reader in
    let asked = c.args.asked in
    let was : IsPlanningOf false asked old left c.in_ok-planner.planner = c.in_ok-planner.ensures in
    let more : AddsRead GoesOn true left new c.in_ok-planner.planner c.add_all.new.pass = c.in_ok-add_all.ensures in
    c.finish.ensures asked old new record {
      first = was.first;
      lines = was.lines ++ more.lines;
      planning = more.added.planning asked was.first was.lines was.planning;
      read = reads_further true old left new (was.first ∷ was.lines) more.lines was.read more.read;
    }
