-- The plans for the ledgers of an inventory that the command line asks for, and what is printed of them.
use Rattle.std.specs.Prelude.{◌≡◌, ℕ, Bool, true, false, List, Option, map}
use Rattle.std.specs.Option.{is_some}
use Rattle.reh_cut.specs.declared.said.Assume.{Assume}
use Rattle.reh_cut.specs.declared.said.Assume.TheVariants.{Nothing, Held, Empty}
use Rattle.reh_inventory_plan.specs.Lines.{IsInventoryPlan}
use Rattle.reh_inventory_plan.specs.Objects.{json_of}
use Rattle.reh_inventory_plan.specs.Texts.{plans_text}
use Rattle.reh_inventory_plan.specs.declared.asked.Asked.{Asked}
use Rattle.reh_inventory_plan.specs.declared.inventories.InventoryPlan.{InventoryPlan}
use Rattle.reh_words.specs.declared.tasks.PlanWords.{PlanWords}

-- what stands for what nobody tells
abbrev pub assume_by : Bool → Bool → Assume
assume_by true empty = Held
assume_by false true = Empty
assume_by false false = Nothing

-- what the words ask
pub record IsAskedBy (words : PlanWords) (asked : Asked) : Type 0 where
  pub lost : asked.lost ≡ map (λ word. word.now) words.lost.items
  pub allowed : asked.allowed ≡ map (λ word. word.now) words.allowed.items
  pub racks : asked.min_racks ≡ words.min_racks
  pub assume : asked.assume ≡ assume_by words.assume_held words.assume_empty
  pub writers : asked.writers_roll ≡ words.writers_roll
  pub files : asked.keeps_files ≡ is_some words.output

-- plans as the words ask, for the ledgers of some lines of an inventory
pub record AreRead (words : PlanWords) (plan : InventoryPlan) : Type 0 where
  pub asked : Asked
  pub is_asked : IsAskedBy words asked
  pub left : Option (List ℕ)
  pub are_plans : IsInventoryPlan asked left plan

-- the same of an inventory that has its last line
abbrev pub ArePlans : PlanWords → InventoryPlan → Type 0
ArePlans words plan = AreRead words plan × (plan.is_whole ≡ true)

-- what is printed of them: JSON, where it is asked for, else text
abbrev pub plans_printed : Bool → InventoryPlan → List ℕ
plans_printed true plan = json_of plan
plans_printed false plan = plans_text plan
