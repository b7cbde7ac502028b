-- How it is told that there is no plan, and what a refused step comes to.
use Rattle.std.specs.Prelude.{List, ℕ, codes}
use Rattle.reh_plan.specs.declared.faults.PlanFault.{PlanFault}
use Rattle.reh_plan.specs.declared.faults.PlanFault.TheVariants.{NoMemory, NoRoom, Unfinished}
use Rattle.reh_plan.specs.declared.faults.StepFault.{StepFault}
use Rattle.reh_plan.specs.declared.faults.StepFault.TheVariants.{Fault, Left}
use Rattle.reh_types.specs.declared.refusals.Refusal.{Refusal}
use Rattle.reh_types.specs.declared.refusals.Refusal.TheVariants as refusal

abbrev pub plan_fault_text : PlanFault → List ℕ
plan_fault_text NoMemory = codes "no memory"
plan_fault_text NoRoom = codes "the plan is too long for a script"
plan_fault_text Unfinished =
    codes "the plan would leave something undone, do something in vain, or give a place to the wrong bookie"

-- a step that is refused is left, unless there is no memory for it
abbrev pub step_fault_of : Refusal → StepFault
step_fault_of refusal.NoMemory = Fault NoMemory
step_fault_of other = Left
