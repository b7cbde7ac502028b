-- What was counted of the lines of an inventory.
use Rattle.std.specs.Prelude.{◌≡◌, ℕ, Bool, not, List, ◌∷◌, ◌++◌, Option, Result, Ok, IfOk}
use Rattle.reh_inventory.specs.Inventories.{Inventory, inventory_of}
use Rattle.reh_inventory_census.specs.Census.{IsCensusOf, IsCount, IsCountedLine}
use Rattle.reh_inventory_census.specs.declared.census.CountedLine.{CountedLine}
use Rattle.reh_inventory_census.specs.declared.census.InventoryCount.{InventoryCount}
use Rattle.reh_inventory_census.specs.declared.faults.CountFault.{CountFault}
use Rattle.reh_inventory_read.specs.Lines.{Reads, ReadsAll}
use Rattle.reh_inventory_read.specs.declared.counting.CountedInventory.{CountedInventory}

-- what was counted of a line by itself, or why it can't be
abbrev pub IsCountMade : InventoryCount → List ℕ → Result CountedLine CountFault → Type 0
IsCountMade count bytes made = IfOk made (IsCountedLine count bytes)

-- the next lines that a reader had left were counted, a first line among them; all that it had left, if these are the last
pub record IsCounting (is_last strict : Bool) (names : List (List ℕ)) (old new : Option (List ℕ)) (count : InventoryCount) : Type 0 where
  pub first : List ℕ
  pub lines : List (List ℕ)
  pub counted : IsCount names strict first lines count
  pub read : Reads is_last old new (first ∷ lines)

-- these lines were counted after those before them, and what was counted of others by themselves can still be added
pub record GoesOn (added : List (List ℕ)) (one other : InventoryCount) : Type 0 where
  pub counting : (names : List (List ℕ)) (strict : Bool) (first : List ℕ) (before : List (List ℕ))
      → IsCount names strict first before one → IsCount names strict first (before ++ added) other
  pub others : (bytes : List ℕ) (made : Result CountedLine CountFault) → IsCountMade one bytes made → IsCountMade other bytes made

-- It is the census of some lines, with these numbers of bookies and strict or not; these are the ids of their ledgers, and so it is
-- told whether the last line isn't there. If it is known which bytes the reader had left, these are all their lines.
pub record IsOfLines (strict : Bool) (names : List (List ℕ)) (left : Option (List ℕ)) (inventory : CountedInventory) : Type 0 where
  pub first : List ℕ
  pub lines : List (List ℕ)
  pub counted : IsCensusOf names strict first lines inventory.census
  pub all : ReadsAll left (first ∷ lines)
  pub said : Inventory
  pub is_read : inventory_of (first ∷ lines) ≡ Ok said
  pub ids : inventory.ids.items ≡ said.ids
  pub cut : inventory.is_cut ≡ not said.is_whole
