-- A file that is no picture, but an inventory.
use Rattle.std.specs.Prelude.{◌≡◌, ◌⊎◌, ⊤, ℕ, ◌==◌, Bool, true, false, ◌&&◌, List, ◌++◌, codes, eqb, Option, None, Some, Result, Ok, Err}
use Rattle.std.specs.Borrow.{Bor}
use Rattle.std.specs.List.{before_first, starts_with}
use Rattle.reh_files.specs.Faults.{refused_by, run_fault_text}
use Rattle.reh_inventory.specs.Inventories.{added_bytes, no_lines}
use Rattle.reh_inventory.specs.declared.inventories.InventoryFault.TheVariants.{NoHead}
use Rattle.reh_picture.specs.declared.places.LocatedFault.{LocatedFault}
use Rattle.reh_questions.specs.Inputs.{IsUnfit, TellsUnreadable}
use Rattle.reh_questions.specs.Inventories.{TellsLine}
use Rattle.reh_files.specs.declared.faults.RunFault.{RunFault}
use Rattle.reh_files.specs.declared.faults.RunFault.TheVariants.{Picture, Refused}
use Rattle.reh_files.specs.declared.files.TheConstants.{INVENTORY_BEGINS}
use Rattle.reh_inputs.specs.declared.inputs.InputFault.{InputFault}
use Rattle.reh_words.specs.declared.tasks.PlayWords.TheVariants.{Files, Talk}
use Rattle.reh_words.specs.declared.tasks.Task.{Task}
use Rattle.reh_words.specs.declared.tasks.Task.TheVariants as task

-- whether bytes begin as an inventory
abbrev pub begins_as_inventory : List ℕ → Bool
begins_as_inventory bytes = starts_with eqb bytes INVENTORY_BEGINS.now

-- whether a picture is refused
abbrev pub is_refusal : RunFault → Bool
is_refusal (Picture fault) = true
is_refusal (Refused path located) = true
is_refusal fault = false

-- the fault with one more line
abbrev pub explained_text : List ℕ → RunFault → List ℕ
explained_text path fault =
    run_fault_text fault
    ++ (codes "\n" ++ (path ++ codes " is an inventory: cut --ledgers ID,.. makes a picture of some of its ledgers"))

-- if an inventory is given for a picture, the fault says so; any other stays
abbrev pub Explains : List ℕ → Bool → RunFault → RunFault → Type 0
Explains path true fault run = IsUnfit (explained_text path fault) run
Explains path false fault run = run ≡ fault

-- the fault of a rehearsal on the picture in this file: only where its picture is refused may it say that the file is an
-- inventory
abbrev pub ExplainsOn : Option (Bor (List ℕ)) → RunFault → RunFault → Type 0
ExplainsOn None fault run = run ≡ fault
ExplainsOn (Some path) fault run = (begins : Bool) × Explains path.now (is_refusal fault && begins) fault run

-- a rehearsal that ends well ends with its status, and any other with its fault
abbrev pub EndsOn : Option (Bor (List ℕ)) → Result ℕ RunFault → Result ℕ RunFault → Type 0
EndsOn picture (Ok status) end = end ≡ Ok status
EndsOn picture (Err fault) end = (told : RunFault) × (end ≡ Err told) × ExplainsOn picture fault told

-- An inventory without its first line

-- the first line of these bytes, without its end
abbrev pub first_line : List ℕ → List ℕ
first_line bytes = before_first (λ b. b == 10) bytes

-- the bytes begin with another line of an inventory than its first one, and the fault says so
pub record TellsHeadless (path bytes : List ℕ) (run : RunFault) : Type 0 where
  pub is_so : added_bytes no_lines (first_line bytes) ≡ Err NoHead
  pub says : TellsLine path 1 NoHead run

-- what is told of bytes is so; where nothing is told, they may be such an inventory if there is no memory
abbrev pub IsHeadless : List ℕ → List ℕ → Option RunFault → Type 0
IsHeadless path bytes (Some run) = TellsHeadless path bytes run
IsHeadless path bytes None = ⊤

-- why a file is no picture: it lacks the first line of an inventory, or its picture has this fault
abbrev pub TellsNoPicture : List ℕ → List ℕ → LocatedFault → RunFault → Type 0
TellsNoPicture path bytes located run = TellsHeadless path bytes run ⊎ (run ≡ refused_by located.fault located)

-- and why it is no input
abbrev pub TellsNoInput : List ℕ → List ℕ → InputFault → RunFault → Type 0
TellsNoInput path bytes fault run = TellsHeadless path bytes run ⊎ TellsUnreadable path fault run

-- the file of the picture on which a rehearsal is played, if it is in one
abbrev pub played_picture : Task → Option (List ℕ)
played_picture (task.Play (Talk picture prints)) = Some picture.now
played_picture (task.Play (Files picture script crew prints)) = Some picture.now
played_picture (task.PlayOut words) = Some words.picture.now
played_picture (task.Drill files) = Some files.picture.now
played_picture other = None
