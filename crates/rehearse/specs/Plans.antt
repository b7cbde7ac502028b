-- The plan that the command line asks for, and what is printed of it.
use Rattle.std.specs.Prelude.{◌≡◌, ℕ, Bool, true, false, List, [], ◌∷◌, Some, Ok, IfSome, if◌then◌else◌, length, map, nat_lt}
use Rattle.std.specs.Borrow.{Bor}
use Rattle.reh_types.specs.declared.limits.TheConstants.{MAX_BOOKIES}
use Rattle.reh_types.specs.Sets as set
use Rattle.reh_types.specs.Sets.{Set, numbers}
use Rattle.reh_model.specs.Cluster.{Cluster}
use Rattle.reh_model.specs.Session.{replay}
use Rattle.reh_lines.specs.Lines.{lines_of}
use Rattle.reh_commands.specs.Texts.{text_of}
use Rattle.reh_picture.specs.Listings.{Lists}
use Rattle.reh_picture.specs.Pictures.{located_picture_of}
use Rattle.reh_picture.specs.declared.listings.Listed.{Listed}
use Rattle.reh_plan.specs.Faults.{plan_fault_text}
use Rattle.reh_plan.specs.Named.{AreNamed}
use Rattle.reh_plan.specs.Objects.{json_of}
use Rattle.reh_plan.specs.Plans.{AreLeft, GoesOnBy, IsWithout, losses_of}
use Rattle.reh_plan.specs.Racks.{fewer_racks, lines_before}
use Rattle.reh_plan.specs.Runbooks.{runbook_lines}
use Rattle.reh_plan.specs.Summaries.{IsSum, is_whole, plan_text}
use Rattle.reh_plan.specs.Takers.{AreWellTaken}
use Rattle.reh_plan.specs.Workers.{may_work, rules_by}
use Rattle.reh_plan.specs.declared.faults.PlanFault.{PlanFault}
use Rattle.reh_plan.specs.declared.faults.PlanFault.TheVariants as plan_fault
use Rattle.reh_plan.specs.declared.planning.Planned.{Planned}
use Rattle.reh_words.specs.declared.tasks.PlanWords.{PlanWords}
use Rattle.reh_questions.specs.Inputs.{IsAfterSome, IsUnfit}
use Rattle.reh_files.specs.declared.faults.RunFault.{RunFault}
use Rattle.reh_files.specs.declared.faults.RunFault.TheVariants as run_fault
use Rattle.rehearse.specs.declared.plans.Asked.{Asked}
use Rattle.rehearse.specs.declared.plans.Plans.{Plans}
use Rattle.rehearse.specs.declared.plans.Plans.TheVariants as plans
use Rattle.rehearse.specs.InventoryPlans.{ArePlans}
use Rattle.reh_files.specs.declared.files.InputBytes.{InputBytes}
use Rattle.reh_files.specs.declared.files.InputBytes.TheVariants as input
use Rattle.reh_inventory_plan.specs.Pictures.{is_set, racks_of}
use Rattle.reh_inventory_plan.specs.Totals.{is_done}
use Rattle.reh_inventory_plan.specs.declared.inventories.InventoryPlan.{InventoryPlan}

-- who may work: the bookies that the words name, or all that there can be, where there are no words
abbrev pub AreAllowed : List (List ℕ) → List (Bor (List ℕ)) → Set numbers → Type 0
AreAllowed names [] bookies = (b : ℕ) → set.contains bookies b ≡ nat_lt b MAX_BOOKIES
AreAllowed names (word ∷ words) bookies = AreNamed names (word ∷ words) bookies

-- what the words ask of the picture of these bytes, whose bookies have these names
pub record IsAsked (bytes : List ℕ) (names : List (List ℕ)) (words : PlanWords) (asked : Asked) : Type 0 where
  pub listed : Listed
  pub lists : Lists bytes listed
  pub lost : AreNamed names words.lost.items asked.lost
  pub allowed : AreAllowed names words.allowed.items asked.allowed
  pub read_only : (b : ℕ) → set.contains asked.read_only b ≡ is_set (map (λ m. m.is_read_only) listed.marks.items) b
  pub racks : asked.racks ≡ racks_of listed.marks.items words.min_racks
  pub writers : asked.writers_roll ≡ words.writers_roll

-- a plan for a cluster, without the lost bookies, by those that may work and aren't read-only; where writers change their
-- ensembles themselves, by them too, and without a fence; each place goes to a bookie with which the fewest write sets lack
-- racks; with the ledgers that are left and why, the fragments in fewer
-- racks, and what it comes to
pub record IsPlan (state : Cluster) (asked : Asked) (p : Planned) : Type 0 where
  pub opening : p.plan.opening ≡ state
  pub accepted : replay state p.plan.events ≡ Some p.plan.state
  pub without : IsWithout state (set.contains asked.lost) p.plan.state
  pub order : GoesOnBy (rules_by asked.allowed asked.read_only asked.writers_roll)
      (losses_of state (set.contains asked.lost) (length state.names)) p.plan.events
  pub places : AreWellTaken (may_work (rules_by asked.allowed asked.read_only asked.writers_roll)) asked.racks state p.plan.events
  pub left : AreLeft (rules_by asked.allowed asked.read_only asked.writers_roll) state.names p.plan.state
      (lines_before p.fewer.items p.plan.lines) p.left.items
  pub racks : p.fewer.items ≡ fewer_racks asked.racks state p.plan.state
  pub sum : IsSum p.plan p.summary

-- the plan for the picture of these bytes, as the words ask
pub record IsPlanFor (bytes : List ℕ) (words : PlanWords) (p : Planned) : Type 0 where
  pub state : Cluster
  pub shown : located_picture_of bytes ≡ Ok state
  pub asked : Asked
  pub is_asked : IsAsked bytes state.names words asked
  pub is_plan : IsPlan state asked p

-- the fault of a run that has no plan
abbrev pub TellsUnplanned : PlanFault → RunFault → Type 0
TellsUnplanned plan_fault.NoMemory run = run ≡ run_fault.NoMemory
TellsUnplanned fault run = IsUnfit (plan_fault_text fault) run

-- What is printed

-- JSON, or what the plan comes to, or its runbook, where they are asked for, the first of these; else its script
abbrev pub PrintsPlan : Bool → Bool → Bool → Planned → List ℕ → Type 0
PrintsPlan true only_sums expects p text = text ≡ json_of p
PrintsPlan false true expects p text = text ≡ plan_text p
PrintsPlan false false true p text =
    text ≡ text_of (runbook_lines p.plan.state.names p.plan.lines p.summary.unreadable)
PrintsPlan false false false p text = lines_of text ≡ p.plan.lines

-- after a script the bytes are the picture of some state to which some script leads
abbrev pub IsPictureFor : PlanWords → List ℕ → Type 0
IsPictureFor words bytes = IfSome words.after (λ script. IsAfterSome false bytes)

-- the same of what was read; an inventory is planned for only without a script
abbrev pub IsInputFor : PlanWords → InputBytes → Type 0
IsInputFor words (input.Whole bytes) = IsPictureFor words bytes.items
IsInputFor words other = Unit {0}

-- a plan as these words ask, for some picture
pub record IsPlanned (words : PlanWords) (p : Planned) : Type 0 where
  pub bytes : List ℕ
  pub picture : IsPictureFor words bytes
  pub planned : IsPlanFor bytes words p

-- the same, or plans for the ledgers of an inventory
abbrev pub ArePlanned : PlanWords → Plans → Type 0
ArePlanned words (plans.Picture p unclosed) = IsPlanned words p
ArePlanned words (plans.Inventory plan) = ArePlans words plan

-- 0 where nothing is left, no entry is lost, and the script isn't full, else 8
abbrev pub status_of : Planned → ℕ
status_of p = if is_whole p.summary then 0 else 8

-- 0 where all ledgers were read, nothing is left, no entry of a ledger that is planned for is lost, and no script is full, else 8
abbrev pub status_of_inventory : InventoryPlan → ℕ
status_of_inventory plan = if is_done plan then 0 else 8

abbrev pub status_of_plans : Plans → ℕ
status_of_plans (plans.Picture p unclosed) = status_of p
status_of_plans (plans.Inventory plan) = status_of_inventory plan

-- the status of such plans
pub record IsStatus (words : PlanWords) (status : ℕ) : Type 0 where
  pub planned : Plans
  pub are_planned : ArePlanned words planned
  pub is_status : status ≡ status_of_plans planned
