-- The plan is for what is asked of the bookies.
use Rattle.std.proofs.Common.{subst, ℕ, List}
use Rattle.std.specs.Prelude.{IfOk, Ok, Err}
use Rattle.reh_inventory_plan.specs.Pictures.{IsPartOf, IsPlan, IsPlanAsked}
use Rattle.reh_inventory_plan.specs.declared.pictures.Part.{Part}
use Rattle.reh_inventory_plan.proofs.pictures.plan_state.Goals as goal

pub returns : goal.returns
returns c =
    let part : Part = c.in_ok-part.part in
    elim c.plan_by.result as (λ r. IfOk r (IsPlan c.args.state part c.args.asked.now.writers_roll)
    → IfOk r (IsPlanAsked c.args.asked.now c.args.state c.args.marks.now)) [
      | Ok planned ↦ λ is. record {
        part = part;
        is_part = subst (λ (names : List (List ℕ)). IsPartOf c.args.asked.now names c.args.marks.now part) c.names.ensures.names
            c.in_ok-part.ensures;
        is_plan = is;
      }
      | Err fault ↦ λ none. none
    ] c.plan_by.ensures
