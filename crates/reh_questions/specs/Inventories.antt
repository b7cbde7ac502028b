-- What is said of an inventory that is checked, and why one isn't read or counted.
use Rattle.std.specs.Prelude.{◌≡◌, ℕ, Bool, true, false, List, ◌++◌, codes}
use Rattle.std.specs.Fmt.{decimal}
use Rattle.reh_inventory.specs.Inventories.{Inventory, fault_text}
use Rattle.reh_inventory.specs.declared.inventories.InventoryFault.{InventoryFault}
use Rattle.reh_inventory.specs.declared.inventories.InventoryFault.TheVariants as inventory_fault
use Rattle.reh_inventory_census.specs.declared.faults.CountFault.{CountFault}
use Rattle.reh_inventory_census.specs.declared.faults.CountFault.TheVariants as count_fault
use Rattle.reh_inventory_read.specs.declared.faults.ReadFault.{ReadFault}
use Rattle.reh_inventory_read.specs.declared.faults.ReadFault.TheVariants as read_fault
use Rattle.reh_inventory_read.specs.declared.limited.TheConstants.{MAX_LINE_BYTES}
use Rattle.reh_check_json.specs.Inventories as inventories
use Rattle.reh_files.specs.Faults.{TellsUnread}
use Rattle.reh_files.specs.declared.faults.RunFault.{RunFault}
use Rattle.reh_files.specs.declared.faults.RunFault.TheVariants.{NoMemory}
use Rattle.reh_questions.specs.Inputs.{IsUnfit, too_many_text}

-- as JSON, or else a line ok and then what is counted
abbrev pub inventory_text : Bool → Inventory → List ℕ
inventory_text true inventory = inventories.inventory_text (inventories.counts_of inventory)
inventory_text false inventory =
    codes "ok\n" ++ (inventories.counts_text (inventories.counts_of inventory) ++ codes "\n")

-- the text says what is counted of an inventory that has its last line
pub record SaysOfInventory (as_json : Bool) (text : List ℕ) : Type 0 where
  pub inventory : Inventory
  pub is_whole : inventory.is_whole ≡ true
  pub says : text ≡ inventory_text as_json inventory

-- what is said of an inventory, and of one of its lines
abbrev pub told : List ℕ → List ℕ → List ℕ
told path said = codes "inventory " ++ (path ++ (codes ": " ++ said))

abbrev pub told_of_line : List ℕ → ℕ → List ℕ → List ℕ
told_of_line path line said = told path (codes "line " ++ (decimal line ++ (codes ": " ++ said)))

-- the fault of a run on an inventory that was cut after the lines of so many ledgers
abbrev pub cut_text : List ℕ → ℕ → List ℕ
cut_text path ledgers =
    told path (codes "expected a last line, after the lines of " ++ (decimal ledgers ++ codes " ledgers: the file was cut"))

-- which fault of a run tells why a line isn't the next one of an inventory
abbrev pub TellsLine : List ℕ → ℕ → InventoryFault → RunFault → Type 0
TellsLine path line inventory_fault.NoMemory run = run ≡ NoMemory
TellsLine path line fault run = IsUnfit (told_of_line path line (fault_text fault)) run

-- which tells why it can't be counted
abbrev pub TellsUncounted : List ℕ → ℕ → CountFault → RunFault → Type 0
TellsUncounted path line (count_fault.Line fault) run = TellsLine path line fault run
TellsUncounted path line count_fault.TooManyBookies run =
    IsUnfit (told_of_line path line (codes "there are more than 4096 bookies")) run
TellsUncounted path line count_fault.Unnamed run =
    IsUnfit (told_of_line path line (codes "it names a bookie that no line had when the names were read: the file has changed")) run
TellsUncounted path line (count_fault.Unfit id) run =
    IsUnfit (told_of_line path line (codes "ledger " ++ (decimal id ++ codes " can't be counted"))) run
TellsUncounted path line (count_fault.HoldsThoughEmpty id) run =
    IsUnfit (told_of_line path line (codes "a bookie that is shown as empty holds entries of ledger "
    ++ (decimal id ++ codes ": leave out one of the two"))) run
TellsUncounted path line count_fault.TooMany run = IsUnfit (told path too_many_text) run
TellsUncounted path line count_fault.NoMemory run = run ≡ NoMemory

-- and which tells why an inventory isn't read or counted
abbrev pub TellsUnreadInventory : List ℕ → ReadFault → RunFault → Type 0
TellsUnreadInventory path (read_fault.Unread error) run = TellsUnread (codes "read") path run
TellsUnreadInventory path read_fault.TooLong run =
    IsUnfit (told path (codes "a line has more than " ++ (decimal MAX_LINE_BYTES ++ codes " bytes"))) run
TellsUnreadInventory path (read_fault.Line line fault) run = TellsUncounted path line fault run
TellsUnreadInventory path read_fault.NoMemory run = run ≡ NoMemory

-- a fault tells why a line isn't read: it is that of some reading
pub record TellsUnreadLine (path : List ℕ) (run : RunFault) : Type 0 where
  pub fault : ReadFault
  pub tells : TellsUnreadInventory path fault run
