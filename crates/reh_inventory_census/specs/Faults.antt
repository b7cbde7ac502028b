-- Faults, as faults of a count.
use Rattle.reh_inventory.specs.declared.inventories.InventoryFault.{InventoryFault}
use Rattle.reh_inventory.specs.declared.inventories.InventoryFault.TheVariants as line
use Rattle.reh_inventory_census.specs.declared.counts.CountsFault.{CountsFault}
use Rattle.reh_inventory_census.specs.declared.counts.CountsFault.TheVariants as counts
use Rattle.reh_inventory_census.specs.declared.faults.CountFault.{CountFault}
use Rattle.reh_inventory_census.specs.declared.faults.CountFault.TheVariants.{Line, NoMemory, TooMany, TooManyBookies}
use Rattle.reh_inventory_census.specs.declared.numbers.NumberFault.{NumberFault}
use Rattle.reh_inventory_census.specs.declared.numbers.NumberFault.TheVariants as number
use Rattle.reh_inventory_fields.specs.declared.faults.Fault.{Fault}
use Rattle.reh_inventory_fields.specs.declared.faults.Fault.TheVariants as fault
use Rattle.reh_inventory_fields.specs.declared.places.LineFault.{LineFault}
use Rattle.reh_tally.specs.declared.census.TallyFault.{TallyFault}
use Rattle.reh_tally.specs.declared.census.TallyFault.TheVariants as tally

abbrev pub of_counts : CountsFault → CountFault
of_counts counts.TooMany = TooMany
of_counts counts.NoMemory = NoMemory

abbrev pub of_tally : TallyFault → CountFault
of_tally tally.TooMany = TooMany
of_tally tally.NoMemory = NoMemory

abbrev pub of_number : NumberFault → CountFault
of_number number.TooMany = TooManyBookies
of_number number.NoMemory = NoMemory

abbrev pub of_line : InventoryFault → CountFault
of_line line.NoMemory = NoMemory
of_line other = Line other

-- a fault of a line by itself
abbrev pub of_own : Fault → LineFault → CountFault
of_own fault.NoMemory located = NoMemory
of_own other located = Line (line.Line located)
