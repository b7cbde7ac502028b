-- Files whose ledgers are weighed one after the other: of some every ledger, of the others none.
use Rattle.std.specs.Prelude.{◌≡◌, ℕ, Bool, true, false, List, [], ◌++◌, Vec, map}
use Rattle.std.specs.List.{flat_map}
use Rattle.std.specs.declared.alloc.Global.{Global}
use Rattle.reh_against.specs.declared.stops.Stop.{Stop}
use Rattle.reh_against.specs.declared.worst.Worst.{Worst}
use Rattle.reh_against.specs.Weighed.{WeighsBy}
use Rattle.reh_against.specs.Worst.{Each}
use Rattle.reh_census.specs.Ledgers.{Ledger}
use Rattle.reh_inventory_against.specs.Reread.{IsReread}

-- what was weighed of a file: whether it was read once more, the ids of its ledgers that could be read, and the parts of each
pub record Weighed : Type 0 where
  pub is_read : Bool
  pub ids : List ℕ
  pub ledgers : List (List Ledger)

abbrev pub was_read : Weighed → Bool
was_read file = file.is_read

abbrev pub ids_in : Weighed → List ℕ
ids_in file = file.ids

abbrev pub ledgers_in : Weighed → List (List Ledger)
ledgers_in file = file.ledgers

-- all ledgers of lines that have the same ids as when the file was counted, or none
abbrev pub IsAllOrNone : List (List ℕ) → Bool → List ℕ → Bool → List ℕ → List (List Ledger) → Type 0
IsAllOrNone names strict kept true ids ledgers = IsReread names strict kept ids ledgers
IsAllOrNone names strict kept false ids ledgers = (ids ≡ []) × (ledgers ≡ [])

abbrev pub IsWeighedOf : List (List ℕ) → Bool → Vec ℕ Global → Weighed → Type 0
IsWeighedOf names strict kept file = IsAllOrNone names strict kept.items file.is_read file.ids file.ledgers

-- of files that had ledgers of these ids those were read once more of which a flag says so
pub record AreWeighed (names : List (List ℕ)) (strict : Bool) (flags : List Bool) (kept : List (Vec ℕ Global)) (files : List Weighed) : Type 0 where
  pub flags_are : map was_read files ≡ flags
  pub each : Each (IsWeighedOf names strict) kept files

-- the ledgers of such files were weighed after these ledgers
pub record HaveWeighed (stop : Stop) (names : List (List ℕ)) (strict : Bool) (flags : List Bool) (kept : List (Vec ℕ Global))
    (ids : List ℕ) (ledgers : List (List Ledger)) (worst : Worst) : Type 0 where
  pub files : List Weighed
  pub are : AreWeighed names strict flags kept files
  pub weighed : WeighsBy stop (ids ++ flat_map ids_in files) (ledgers ++ flat_map ledgers_in files) worst
