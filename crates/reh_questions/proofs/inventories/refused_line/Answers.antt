-- The line's fault is told.
use Rattle.std.proofs.Common.{◌≢◌, ℕ, List, refl}
use Rattle.reh_inventory.specs.Inventories.{fault_text}
use Rattle.reh_inventory.specs.declared.inventories.InventoryFault.{InventoryFault}
use Rattle.reh_inventory.specs.declared.inventories.InventoryFault.TheVariants as inventory_fault
use Rattle.reh_files.specs.declared.faults.RunFault.{RunFault}
use Rattle.reh_questions.specs.Inputs.{IsUnfit}
use Rattle.reh_questions.specs.Inventories.{TellsLine, told_of_line}
use Rattle.reh_questions.proofs.inventories.refused_line.Goals as goal

told : (path : List ℕ) (line : ℕ) (fault : InventoryFault) (run : RunFault) → fault ≢ inventory_fault.NoMemory
    → IsUnfit (told_of_line path line (fault_text fault)) run → TellsLine path line fault run
told path line inventory_fault.NoMemory run not is = absurd (not refl)
told path line fault run not is = is

pub returns-in_default : goal.returns-in_default
returns-in_default c = told _ _ _ _ c.in_default.not-NoMemory c.faulty_line.ensures
