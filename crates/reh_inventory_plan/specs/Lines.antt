-- The plans for the ledgers of an inventory's lines.
use Rattle.std.specs.Prelude.{◌≡◌, ℕ, Bool, true, false, List, [], ◌∷◌, ◌++◌, Option, None, Some, Result, Ok, IfOk, length}
use Rattle.std.specs.List.{filter}
use Rattle.reh_inventory.specs.Inventories.{Inventory, inventory_of}
use Rattle.reh_inventory.specs.Lines.{located_line_of}
use Rattle.reh_inventory.specs.declared.heads.Head.{Head}
use Rattle.reh_inventory.specs.declared.ledgers.LedgerLine.{LedgerLine}
use Rattle.reh_inventory.specs.declared.lines.Line.TheVariants as line
use Rattle.reh_inventory_census.specs.Census.{IsOtherLine, head_in, ledger_lines}
use Rattle.reh_inventory_census.specs.declared.faults.CountFault.{CountFault}
use Rattle.reh_inventory_read.specs.Lines.{Reads, ReadsAll}
use Rattle.reh_inventory_plan.specs.Asked.{misses_member}
use Rattle.reh_inventory_plan.specs.Ledgers.{IsLedgerPlan}
use Rattle.reh_inventory_plan.specs.declared.asked.Asked.{Asked}
use Rattle.reh_inventory_plan.specs.declared.faults.Unplanned.{Unplanned}
use Rattle.reh_inventory_plan.specs.declared.faults.Unplanned.TheVariants as reason
use Rattle.reh_inventory_plan.specs.declared.inventories.InventoryPlan.{InventoryPlan}
use Rattle.reh_inventory_plan.specs.declared.ledgers.Outcome.{Outcome}
use Rattle.reh_inventory_plan.specs.declared.ledgers.Outcome.TheVariants as outcome
use Rattle.reh_inventory_plan.specs.declared.planner.PlannedLine.{PlannedLine}
use Rattle.reh_inventory_plan.specs.declared.planner.PlannedLine.TheVariants as planned_line
use Rattle.reh_inventory_plan.specs.declared.planner.Planner.{Planner}

-- One ledger

-- a run that is out of memory ends: that is no reason why one ledger has no plan
abbrev pub IsReason : Unplanned → Type 0
IsReason reason.NoMemory = ⊥
IsReason why = Unit {0}

-- what comes of a ledger that misses a member: a plan for it, or that there is none
abbrev pub IsOutcome : Head → Asked → LedgerLine → Outcome → Type 0
IsOutcome head asked ledger (outcome.Planned planned) = IsLedgerPlan head asked ledger planned
IsOutcome head asked ledger (outcome.Unplanned id why) = (id ≡ ledger.id) × IsReason why

-- what comes of a ledger, if it misses a member
abbrev pub IsOutcomeOf : Head → Asked → LedgerLine → Option Outcome → Type 0
IsOutcomeOf head asked ledger None = misses_member head asked.lost ledger ≡ false
IsOutcomeOf head asked ledger (Some outcome) =
    (misses_member head asked.lost ledger ≡ true) × IsOutcome head asked ledger outcome

-- One line

-- these bytes say a ledger of this id, of which this came
pub record IsLedgerMade (head : Head) (asked : Asked) (bytes : List ℕ) (id : ℕ) (outcome : Option Outcome) : Type 0 where
  pub ledger : LedgerLine
  pub says : located_line_of bytes ≡ Ok (line.Ledger ledger)
  pub has_id : ledger.id ≡ id
  pub of : IsOutcomeOf head asked ledger outcome

-- what was made of a line of these bytes
abbrev pub IsLineMade : Head → Asked → List ℕ → PlannedLine → Type 0
IsLineMade head asked bytes (planned_line.Other said) = IsOtherLine bytes said
IsLineMade head asked bytes (planned_line.Ledger id outcome) = IsLedgerMade head asked bytes id outcome

abbrev pub IsPlannedMade : Planner → List ℕ → Result PlannedLine CountFault → Type 0
IsPlannedMade planner bytes made = IfOk made (IsLineMade planner.head planner.asked bytes)

-- Lines

-- what came of each of these ledgers, one after another
unfoldable pub AreOutcomes : Head → Asked → List LedgerLine → List Outcome → Type 0
AreOutcomes head asked [] [] = Unit {0}
AreOutcomes head asked [] (outcome ∷ outcomes) = ⊥
AreOutcomes head asked (ledger ∷ ledgers) [] = ⊥
AreOutcomes head asked (ledger ∷ ledgers) (outcome ∷ outcomes) =
    IsOutcome head asked ledger outcome × AreOutcomes head asked ledgers outcomes

-- the ledgers of these lines that miss a member
abbrev pub missing_in : Head → Asked → List (List ℕ) → List LedgerLine
missing_in head asked lines = filter (misses_member head asked.lost) (ledger_lines lines)

-- this first line was read, and of the ledgers of these lines after it this came
pub record IsPlanning (asked : Asked) (first : List ℕ) (lines : List (List ℕ)) (planner : Planner) : Type 0 where
  pub inventory : inventory_of (first ∷ lines) ≡ Ok planner.inventory
  pub head : head_in first ≡ Some planner.head
  pub asked_is : planner.asked ≡ asked
  pub outcomes : AreOutcomes planner.head planner.asked (missing_in planner.head planner.asked lines) planner.outcomes.items

-- these lines were added after those before them, of the same inventory
pub record GoesOn (added : List (List ℕ)) (one other : Planner) : Type 0 where
  pub head : other.head ≡ one.head
  pub asked : other.asked ≡ one.asked
  pub planning : (asked : Asked) (first : List ℕ) (before : List (List ℕ)) → IsPlanning asked first before one
      → IsPlanning asked first (before ++ added) other

-- the next lines that a reader had left were planned for, a first line among them; all that it had left, if these are the last
pub record IsPlanningOf (is_last : Bool) (asked : Asked) (old new : Option (List ℕ)) (planner : Planner) : Type 0 where
  pub first : List ℕ
  pub lines : List (List ℕ)
  pub planning : IsPlanning asked first lines planner
  pub read : Reads is_last old new (first ∷ lines)

-- Of each ledger of some lines that misses a member, one after another, this came: a plan for it, or that there is none. If it is
-- known which bytes the reader had left, these are all their lines.
pub record IsInventoryPlan (asked : Asked) (left : Option (List ℕ)) (plan : InventoryPlan) : Type 0 where
  pub first : List ℕ
  pub lines : List (List ℕ)
  pub all : ReadsAll left (first ∷ lines)
  pub said : Inventory
  pub is_read : inventory_of (first ∷ lines) ≡ Ok said
  pub head : head_in first ≡ Some plan.head
  pub outcomes : AreOutcomes plan.head asked (missing_in plan.head asked lines) plan.outcomes.items
  pub ledgers : plan.ledgers ≡ length said.ids
  pub unread : plan.unread ≡ said.unread
  pub whole : plan.is_whole ≡ said.is_whole
