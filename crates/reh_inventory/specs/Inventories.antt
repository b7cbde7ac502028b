-- An inventory as a whole: what its lines say so far, and which fault a further line has.
use Rattle.std.specs.Prelude.{ℕ, ◌+◌, Bool, true, false, nat_eq, List, [], ◌∷◌, ◌++◌, length, fold, codes, Option, None, Some, Result}
use Rattle.std.specs.Prelude.{Ok, Err}
use Rattle.std.specs.Fmt.{decimal}
use Rattle.std.specs.List.{list_any}
use Rattle.std.specs.Option.{is_some}
use Rattle.reh_model.specs.Checks.{first_reason, reason_if, reason_unless}
use Rattle.reh_inventory_fields.specs.declared.faults.Fault.{Fault}
use Rattle.reh_inventory.specs.declared.heads.Head.{Head}
use Rattle.reh_inventory.specs.declared.inventories.InventoryFault.{InventoryFault}
use Rattle.reh_inventory.specs.declared.inventories.InventoryFault.TheVariants as fault
use Rattle.reh_inventory.specs.declared.ledgers.LedgerLine.{LedgerLine}
use Rattle.reh_inventory.specs.declared.lines.Line.{Line}
use Rattle.reh_inventory.specs.declared.lines.Line.TheVariants as line
use Rattle.reh_inventory_fields.specs.declared.places.Place.{Place}
use Rattle.reh_inventory_fields.specs.Expected.{fault_text as line_fault_text}
use Rattle.reh_inventory.specs.Lines.{located_line_of}

-- the first line, if it came, the ids of the ledgers in the order of their lines, how many of them could not be read, and
-- whether the last line came
pub record Inventory : Type 0 where
  pub head : Option Head
  pub ids : List ℕ
  pub unread : ℕ
  pub is_whole : Bool

abbrev pub no_lines : Inventory
no_lines = record { head = None; ids = []; unread = 0; is_whole = false }

-- Faults of a further line

-- a ledger's line follows a first line, and no line before has the ledger
abbrev pub ledger_fault : Inventory → ℕ → Option InventoryFault
ledger_fault inventory id =
    first_reason
    (reason_unless (is_some inventory.head) fault.NoHead
    ∷ reason_if (list_any (nat_eq id) inventory.ids) (fault.Twice id) ∷ [])

-- a last line follows a first line, and has the number of lines of ledgers
abbrev pub end_fault : Inventory → ℕ → Option InventoryFault
end_fault inventory ledgers =
    first_reason
    (reason_unless (is_some inventory.head) fault.NoHead
    ∷ reason_unless (nat_eq ledgers (length inventory.ids)) (fault.OtherCount (length inventory.ids)) ∷ [])

abbrev pub kind_fault : Inventory → Line → Option InventoryFault
kind_fault inventory (line.Head head) = reason_if (is_some inventory.head) fault.SecondHead
kind_fault inventory (line.Ledger ledger) = ledger_fault inventory ledger.id
kind_fault inventory (line.Unread id) = ledger_fault inventory id
kind_fault inventory (line.End ledgers) = end_fault inventory ledgers

-- nothing follows a last line
abbrev pub order_fault : Inventory → Line → Option InventoryFault
order_fault inventory said =
    first_reason (reason_if inventory.is_whole fault.AfterEnd ∷ kind_fault inventory said ∷ [])

-- A further line

abbrev pub with_line : Inventory → Line → Inventory
with_line inventory (line.Head head) = record inventory { head = Some head }
with_line inventory (line.Ledger ledger) = record inventory { ids = inventory.ids ++ ledger.id ∷ [] }
with_line inventory (line.Unread id) = record inventory { ids = inventory.ids ++ id ∷ []; unread = inventory.unread + 1 }
with_line inventory (line.End ledgers) = record inventory { is_whole = true }

abbrev pub unless_fault : Option InventoryFault → Inventory → Result Inventory InventoryFault
unless_fault None inventory = Ok inventory
unless_fault (Some found) inventory = Err found

abbrev pub added : Inventory → Line → Result Inventory InventoryFault
added inventory said = unless_fault (order_fault inventory said) (with_line inventory said)

-- the same of a line with the ledger of this id
abbrev pub added_ledger : Inventory → ℕ → Result Inventory InventoryFault
added_ledger inventory id =
    unless_fault (first_reason (reason_if inventory.is_whole fault.AfterEnd ∷ ledger_fault inventory id ∷ []))
    (record inventory { ids = inventory.ids ++ id ∷ [] })

-- the ledger of a line, if it has one that was read
abbrev pub ledger_of : Line → Option LedgerLine
ledger_of (line.Head head) = None
ledger_of (line.Ledger ledger) = Some ledger
ledger_of (line.Unread id) = None
ledger_of (line.End ledgers) = None

-- A further line, by its bytes

-- a fault of the line by itself
abbrev pub own_fault : Fault × Place → InventoryFault
own_fault found = fault.Line (record { fault = found.0; place = found.1; column = None })

-- no definition speaks of the column at which a text is no more JSON
abbrev pub without_column : InventoryFault → InventoryFault
without_column (fault.Line located) = own_fault (located.fault, located.place)
without_column fault.NoHead = fault.NoHead
without_column fault.SecondHead = fault.SecondHead
without_column fault.AfterEnd = fault.AfterEnd
without_column (fault.Twice id) = fault.Twice id
without_column (fault.OtherCount ledgers) = fault.OtherCount ledgers
without_column fault.NoMemory = fault.NoMemory

abbrev pub added_said : Inventory → Result Line (Fault × Place) → Result Inventory InventoryFault
added_said inventory (Ok said) = added inventory said
added_said inventory (Err found) = Err (own_fault found)

abbrev pub added_bytes : Inventory → List ℕ → Result Inventory InventoryFault
added_bytes inventory bytes = added_said inventory (located_line_of bytes)

abbrev pub ledger_said : Result Line (Fault × Place) → Option LedgerLine
ledger_said (Ok said) = ledger_of said
ledger_said (Err found) = None

abbrev pub ledger_in : List ℕ → Option LedgerLine
ledger_in bytes = ledger_said (located_line_of bytes)

-- Lines, one after another

abbrev pub and_bytes : Result Inventory InventoryFault → List ℕ → Result Inventory InventoryFault
and_bytes (Ok inventory) bytes = added_bytes inventory bytes
and_bytes (Err found) bytes = Err found

-- what these lines say, or the first fault
abbrev pub inventory_of : List (List ℕ) → Result Inventory InventoryFault
inventory_of lines = fold and_bytes (Ok no_lines) lines

-- The text of a fault

abbrev pub fault_text : InventoryFault → List ℕ
fault_text (fault.Line located) = line_fault_text located
fault_text fault.NoHead = codes "expected a first line, with the field inventory"
fault_text fault.SecondHead = codes "expected no second line with the field inventory"
fault_text fault.AfterEnd = codes "expected no line after the last one"
fault_text (fault.Twice id) =
    codes "id: expected another ledger than " ++ (decimal id ++ codes ", which a line before has")
fault_text (fault.OtherCount ledgers) =
    codes "ledgers: expected " ++ (decimal ledgers ++ codes ", the number of lines of ledgers")
fault_text fault.NoMemory = codes "expected more memory"
