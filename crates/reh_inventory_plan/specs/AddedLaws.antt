-- No line, and some lines and then others, lead from what was planned to what was planned then.
use Rattle.std.proofs.Common.{◌∙◌, ℕ, ◌++◌, [], List, append-nil, append_assoc, refl, subst, sym}
use Rattle.std.specs.Prelude.{Result, IfOk}
use Rattle.reh_inventory.specs.declared.heads.Head.{Head}
use Rattle.reh_inventory_census.specs.declared.faults.CountFault.{CountFault}
use Rattle.reh_inventory_plan.specs.declared.asked.Asked.{Asked}
use Rattle.reh_inventory_plan.specs.declared.planner.PlannedLine.{PlannedLine}
use Rattle.reh_inventory_plan.specs.declared.planner.Planner.{Planner}
use Rattle.reh_inventory_plan.specs.Lines.{GoesOn, IsLineMade, IsPlannedMade, IsPlanning}

pub goes-nowhere : (planner : Planner) → GoesOn [] planner planner
goes-nowhere planner = record {
  head = refl;
  asked = refl;
  planning = λ asked first before was.
      subst (λ (lines : List (List ℕ)). IsPlanning asked first lines planner) (sym (append-nil before)) was;
}

pub goes-further : (lines others : List (List ℕ)) (one mid other : Planner) → GoesOn lines one mid
    → GoesOn others mid other → GoesOn (lines ++ others) one other
goes-further lines others one mid other first second = record {
  head = second.head ∙ first.head;
  asked = second.asked ∙ first.asked;
  planning = λ asked head before was.
      subst (λ (all : List (List ℕ)). IsPlanning asked head all other) (append_assoc before lines others)
      (second.planning asked head (before ++ lines) (first.planning asked head before was));
}

pub still-planned : (lines : List (List ℕ)) (one other : Planner) → GoesOn lines one other
    → (bytes : List ℕ) (made : Result PlannedLine CountFault) → IsPlannedMade one bytes made → IsPlannedMade other bytes made
still-planned lines one other added bytes made was =
    subst (λ (asked : Asked). IfOk made (IsLineMade other.head asked bytes)) (sym added.asked)
    (subst (λ (head : Head). IfOk made (IsLineMade head one.asked bytes)) (sym added.head) was)
