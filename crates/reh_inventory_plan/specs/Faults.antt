-- Why there is no plan for a ledger, in words.
use Rattle.std.specs.Prelude.{List, ℕ, ◌++◌, codes}
use Rattle.reh_cut.specs.Faults.{fault_text}
use Rattle.reh_cut.specs.declared.faults.CutFault.{CutFault}
use Rattle.reh_cut.specs.declared.faults.CutFault.TheVariants as cut_fault
use Rattle.reh_fields.specs.declared.faults.PictureFault.{PictureFault}
use Rattle.reh_fields.specs.declared.faults.PictureFault.TheVariants as picture_fault
use Rattle.reh_picture.specs.declared.places.LocatedFault.{LocatedFault}
use Rattle.reh_plan.specs.Faults.{plan_fault_text}
use Rattle.reh_plan.specs.declared.faults.PlanFault.{PlanFault}
use Rattle.reh_plan.specs.declared.faults.PlanFault.TheVariants as plan_fault
use Rattle.reh_inventory_plan.specs.declared.faults.Unplanned.{Unplanned}
use Rattle.reh_inventory_plan.specs.declared.faults.Unplanned.TheVariants.{NoMemory, NoPicture, NoPlan}

abbrev pub unplanned_text : Unplanned → List ℕ
unplanned_text (NoPicture fault) = codes "no picture: " ++ fault_text fault
unplanned_text (NoPlan fault) = codes "no plan: " ++ plan_fault_text fault
unplanned_text NoMemory = codes "no memory"

-- why there is no plan, where no picture was cut
abbrev pub uncut : CutFault → Unplanned
uncut cut_fault.NoMemory = NoMemory
uncut fault = NoPicture fault

-- where what was cut is refused as a picture, for this fault
abbrev pub refused_by : PictureFault → LocatedFault → Unplanned
refused_by picture_fault.NoMemory located = NoMemory
refused_by fault located = NoPicture (cut_fault.NoPicture located)

-- where the picture has no plan
abbrev pub unplanned : PlanFault → Unplanned
unplanned plan_fault.NoMemory = NoMemory
unplanned fault = NoPlan fault
