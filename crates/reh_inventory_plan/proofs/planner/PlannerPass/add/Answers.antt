-- One line more was added.
use Rattle.std.proofs.Common.{◌≡◌, ◌∙◌, ◌++◌, ◌∷◌, [], ℕ, List, Ok, Some, ap, subst, sym}
use Rattle.std.specs.List.{filter}
use Rattle.std.specs.Option.{option_map_or}
use Rattle.std.specs.Prelude.{Err, IfOk, OnOk, Option, Result}
use Rattle.reh_inventory.specs.Inventories.{added_bytes, added_ledger, added_said, ledger_in, ledger_said}
use Rattle.reh_inventory.specs.declared.ledgers.LedgerLine.{LedgerLine}
use Rattle.reh_inventory_census.specs.declared.faults.CountFault.{CountFault}
use Rattle.reh_inventory_plan.specs.Asked.{misses_member}
use Rattle.reh_inventory_plan.specs.Lines.{AreOutcomes, GoesOn, IsLedgerMade, IsLineMade, IsPlannedMade}
use Rattle.reh_inventory_plan.specs.declared.ledgers.Outcome.{Outcome}
use Rattle.reh_inventory_plan.specs.declared.planner.PlannedLine.{PlannedLine}
use Rattle.reh_inventory_plan.specs.declared.planner.Planner.{Planner}
use Rattle.reh_inventory_plan.proofs.PlannerLaws.{goes-on, outcome_of_one}
use Rattle.reh_inventory_plan.proofs.planner.PlannerPass.add.Goals as goal

pub returns-in_ok-add_ledger-in-Ledger : goal.returns-in_ok-add_ledger-in-Ledger
returns-in_ok-add_ledger-in-Ledger c =
    let one : Planner = c.args.self.now in
    let other : Planner = c.add_outcome.new.self in
    let more : List Outcome = option_map_or (λ o. o ∷ []) c.in-Ledger.outcome [] in
    elim c.add_outcome.result as (λ r. OnOk r (other.outcomes.items ≡ one.outcomes.items ++ more)
    → OnOk r ((bytes : List ℕ) → IsPlannedMade one bytes c.args.made → GoesOn (bytes ∷ []) one other)) [
      | Ok done ↦ λ outcomes bytes is.
          let line : IsLineMade one.head one.asked bytes c.in_ok-line.field-0 =
          subst (λ (r : Result PlannedLine CountFault). IfOk r (IsLineMade one.head one.asked bytes)) c.in_ok-line.was is in
          let made : IsLedgerMade one.head one.asked bytes c.in-Ledger.id c.in-Ledger.outcome =
          subst (λ (line : PlannedLine). IsLineMade one.head one.asked bytes line) c.in-Ledger.is line in
          let some : ledger_in bytes ≡ Some made.ledger = ap ledger_said made.says in
          let added : added_bytes one.inventory bytes ≡ Ok other.inventory =
          ap (added_said one.inventory) made.says
          ∙ ap (added_ledger one.inventory) made.has_id
          ∙ c.in_ok-add_ledger-in-Ledger.ensures.added
          ∙ ap Ok (sym c.add_outcome.ensures.inventory) in
          goes-on one other bytes more c.add_outcome.ensures.head c.add_outcome.ensures.asked added outcomes
          (subst (λ (o : Option LedgerLine). AreOutcomes one.head one.asked
          (filter (misses_member one.head one.asked.lost) (option_map_or (λ ledger. ledger ∷ []) o [])) more) (sym some)
          (outcome_of_one one.head one.asked made.ledger c.in-Ledger.outcome made.of))
      | Err fault ↦ λ none. tt
    ] c.add_outcome.ensures.outcomes
