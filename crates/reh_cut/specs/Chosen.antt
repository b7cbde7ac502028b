-- The ledgers of an inventory that are asked for, and their picture, or that of a window of each.
use Rattle.std.specs.Prelude.{◌≡◌, ℕ, Bool, true, ◌&&◌, not, ◌==◌, List, [], ◌∷◌, find, map, Option, None, Some, Ok, if◌then◌else◌}
use Rattle.std.specs.List.{filter, list_all, list_any}
use Rattle.std.specs.Option.{IsSomeAnd, is_some, option_and_then, option_map, option_or}
use Rattle.reh_cut.specs.Cuts.{IsCut}
use Rattle.reh_cut.specs.Faults.{no_window}
use Rattle.reh_cut.specs.Passed.{lines_fault}
use Rattle.reh_cut.specs.declared.chosen.ChosenLedgers.{ChosenLedgers}
use Rattle.reh_cut.specs.declared.faults.CutFault.{CutFault}
use Rattle.reh_cut.specs.declared.faults.CutFault.TheVariants.{NoLedger, NotWhole}
use Rattle.reh_cut.specs.declared.said.Assume.{Assume}
use Rattle.reh_inventory.specs.declared.heads.Head.{Head}
use Rattle.reh_inventory.specs.declared.ledgers.LedgerLine.{LedgerLine}
use Rattle.reh_inventory.specs.Inventories.{Inventory, inventory_of}
use Rattle.reh_inventory_census.specs.Census.{ledger_lines}
use Rattle.reh_window.specs.Windows.{has_window, window_fault, window_of}

abbrev pub has_id : ℕ → LedgerLine → Bool
has_id id line = line.id == id

abbrev pub is_asked : List ℕ → ℕ → Bool
is_asked ids id = list_any (λ asked. asked == id) ids

-- the ledgers of these ids, in the order of the lines
abbrev pub chosen_of : List ℕ → List (List ℕ) → List LedgerLine
chosen_of ids lines = filter (λ line. is_asked ids line.id) (ledger_lines lines)

-- whether each id has its ledger
abbrev pub has_all : List ℕ → List LedgerLine → Bool
has_all ids ledgers = list_all (λ id. list_any (has_id id) ledgers) ids

-- these lines came, and the ledgers of these ids were chosen of them
pub record IsChosen (ids : List ℕ) (lines : List (List ℕ)) (c : ChosenLedgers) : Type 0 where
  pub inventory : inventory_of lines ≡ Ok c.inventory
  pub ids_are : c.ids.items ≡ ids
  pub ledgers_are : c.ledgers.items ≡ chosen_of ids lines

-- whether each ledger has a window of this number, if a window is asked for
abbrev pub have_window : Option ℕ → List LedgerLine → Bool
have_window None ledgers = true
have_window (Some window) ledgers = list_all (has_window window) ledgers

-- what is cut: the ledgers, or the window of this number of each
abbrev pub cut_lines : Option ℕ → List LedgerLine → List LedgerLine
cut_lines None ledgers = ledgers
cut_lines (Some window) ledgers = map (window_of window) ledgers

-- The lines are a whole inventory, which has a ledger of each id, and each ledger has such a window, if one is asked for. The
-- text is the picture of these ledgers, or of their windows.
pub record IsCutOf (ids : List ℕ) (lines : List (List ℕ)) (assume : Assume) (window : Option ℕ) (text : List ℕ)
    : Type 0 where
  pub inventory : Inventory
  pub is_read : inventory_of lines ≡ Ok inventory
  pub is_whole : inventory.is_whole ≡ true
  pub has_ledgers : has_all ids (chosen_of ids lines) ≡ true
  pub has_windows : have_window window (chosen_of ids lines) ≡ true
  pub cut : IsSomeAnd inventory.head (λ head. IsCut head (cut_lines window (chosen_of ids lines)) assume text)

-- Why there is no picture of them

-- the first id that has no ledger
abbrev pub first_missing : List ℕ → List LedgerLine → Option ℕ
first_missing ids ledgers = find (λ id. not (list_any (has_id id) ledgers)) ids

-- the first of these ledgers that has no such window
abbrev pub windows_fault : ℕ → List LedgerLine → Option CutFault
windows_fault window [] = None
windows_fault window (line ∷ lines) =
    option_or (option_map (no_window line.id) (window_fault window line)) (windows_fault window lines)

-- the first fault of what is cut that is found without a picture
abbrev pub cut_fault : Head → Assume → Option ℕ → List LedgerLine → Option CutFault
cut_fault head assume None lines = lines_fault head assume lines
cut_fault head assume (Some window) lines =
    option_or (windows_fault window lines) (lines_fault head assume (map (window_of window) lines))

-- whether the first line and the last one came
abbrev pub is_complete : Inventory → Bool
is_complete inventory = is_some inventory.head && inventory.is_whole

abbrev pub whole_fault : Inventory → Option CutFault
whole_fault inventory = if is_complete inventory then None else Some NotWhole

-- the first fault that is found without a picture: a line that isn't there, the first id without a ledger, and what is
-- wrong with the ledgers
abbrev pub chosen_fault : Inventory → List ℕ → List LedgerLine → Assume → Option ℕ → Option CutFault
chosen_fault inventory ids ledgers assume window =
    option_or (whole_fault inventory)
    (option_or (option_map NoLedger (first_missing ids ledgers))
    (option_and_then (λ head. cut_fault head assume window ledgers) inventory.head))
