-- Lines of an inventory that were counted by themselves.
use Rattle.std.proofs.Common.{ℕ, List}
use Rattle.std.specs.Prelude.{Result, Ok, Err}
use Rattle.reh_inventory_census.specs.declared.census.CountedLine.{CountedLine}
use Rattle.reh_inventory_census.specs.declared.census.InventoryCount.{InventoryCount}
use Rattle.reh_inventory_census.specs.declared.faults.CountFault.{CountFault}
use Rattle.reh_inventory_census.specs.Census.{IsCountedLine}
use Rattle.reh_inventory_read.specs.Counted.{IsCountMade}

-- what was counted of a line can be added to another count, if each counted line can
pub still-counted : (one other : InventoryCount) (bytes : List ℕ) (made : Result CountedLine CountFault)
    → ((bytes : List ℕ) (line : CountedLine) → IsCountedLine one bytes line → IsCountedLine other bytes line)
    → IsCountMade one bytes made → IsCountMade other bytes made
still-counted one other bytes (Ok line) others was = others bytes line was
still-counted one other bytes (Err fault) others was = was
