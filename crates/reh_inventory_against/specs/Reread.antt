-- An inventory that is read once more, whose ledgers are weighed after others.
use Rattle.std.specs.Prelude.{◌≡◌, ℕ, Bool, true, false, List, ◌∷◌, ◌++◌, Ok, map}
use Rattle.std.specs.Option.{IsSomeAnd}
use Rattle.reh_against.specs.declared.stops.Stop.{Stop}
use Rattle.reh_against.specs.declared.worst.Worst.{Worst}
use Rattle.reh_against.specs.Weighed.{WeighsBy}
use Rattle.reh_census.specs.Ledgers.{Ledger}
use Rattle.reh_inventory.specs.declared.ledgers.LedgerLine.{LedgerLine}
use Rattle.reh_inventory.specs.Inventories.{Inventory, inventory_of}
use Rattle.reh_inventory_against.specs.declared.rereading.Rereading.{Rereading}
use Rattle.reh_inventory_census.specs.declared.ledgers.InventoryLedgers.{InventoryLedgers}
use Rattle.reh_inventory_census.specs.Census.{head_in, ledger_lines}
use Rattle.reh_inventory_census.specs.Counted.{counted}
use Rattle.reh_inventory_census.specs.Parts.{parts_of}

abbrev pub id_of : LedgerLine → ℕ
id_of line = line.id

-- the parts of a ledger, as a census counts them
abbrev pub parts_by : InventoryLedgers → LedgerLine → List Ledger
parts_by of line = map (counted of.names of.assumes_striped of.is_strict) (parts_of line)

-- how a census counts them, by these names
abbrev pub counts_by : List (List ℕ) → Bool → Bool → InventoryLedgers
counts_by names assumes strict = record { names = names; assumes_striped = assumes; is_strict = strict }

-- this first line and these lines after it were read
pub record IsRereading (names : List (List ℕ)) (strict : Bool) (first : List ℕ) (lines : List (List ℕ)) (again : Rereading) : Type 0 where
  pub inventory : inventory_of (first ∷ lines) ≡ Ok again.inventory
  pub head : IsSomeAnd (head_in first) (λ head. again.ledgers ≡ counts_by names head.assumes_striped strict)

-- and each of their ledgers was weighed, after these ledgers
pub record IsWeighing (stop : Stop) (names : List (List ℕ)) (strict : Bool) (ids : List ℕ) (ledgers : List (List Ledger))
    (first : List ℕ) (lines : List (List ℕ)) (again : Rereading) (worst : Worst) : Type 0 where
  pub reread : IsRereading names strict first lines again
  pub weighed : WeighsBy stop (ids ++ map id_of (ledger_lines lines))
      (ledgers ++ map (parts_by again.ledgers) (ledger_lines lines)) worst

-- The lines of some inventory, which have the same ids as those that were counted: these are the ids of the ledgers that
-- could be read, and the parts of each.
pub record IsReread (names : List (List ℕ)) (strict : Bool) (kept ids : List ℕ) (ledgers : List (List Ledger)) : Type 0 where
  pub first : List ℕ
  pub lines : List (List ℕ)
  pub inventory : Inventory
  pub is_read : inventory_of (first ∷ lines) ≡ Ok inventory
  pub same : inventory.ids ≡ kept
  pub ids_are : ids ≡ map id_of (ledger_lines lines)
  pub ledgers_are : IsSomeAnd (head_in first)
      (λ head. ledgers ≡ map (parts_by (counts_by names head.assumes_striped strict)) (ledger_lines lines))

-- these ledgers were weighed, and after them those of such an inventory
pub record HasWeighed (stop : Stop) (names : List (List ℕ)) (strict : Bool) (kept ids : List ℕ) (ledgers : List (List Ledger))
    (worst : Worst) : Type 0 where
  pub more_ids : List ℕ
  pub more : List (List Ledger)
  pub reread : IsReread names strict kept more_ids more
  pub weighed : WeighsBy stop (ids ++ more_ids) (ledgers ++ more) worst

-- those of one that is to be read were weighed, or nothing was
abbrev pub WeighsIf : Stop → List (List ℕ) → Bool → Bool → List ℕ → Worst → Worst → Type 0
WeighsIf stop names strict true kept old new =
    (ids : List ℕ) (ledgers : List (List Ledger)) → WeighsBy stop ids ledgers old
    → HasWeighed stop names strict kept ids ledgers new
WeighsIf stop names strict false kept old new = new ≡ old
