-- The plan is for what the picture shows.
use Rattle.std.proofs.Common.{subst, List}
use Rattle.std.specs.Prelude.{IfOk, Ok, Err}
use Rattle.reh_model.specs.Cluster.{Cluster}
use Rattle.reh_picture.specs.Marks.{BookieMarks}
use Rattle.reh_inventory_plan.specs.Pictures.{IsPicturePlan, IsPlanAsked}
use Rattle.reh_inventory_plan.proofs.pictures.plan_picture.Goals as goal

pub returns : goal.returns
returns c =
    let state : Cluster = c.in_ok-state.state in
    elim c.plan_state.result as (λ r. IfOk r (IsPlanAsked c.args.asked.now state c.deref.result.now)
    → IfOk r (IsPicturePlan c.args.asked.now c.args.text.now)) [
      | Ok planned ↦ λ is. record {
        state = state;
        shown = c.in_ok-state.ensures;
        listed = c.in_ok-listed.listed;
        lists = c.in_ok-listed.ensures.listed;
        is_plan = subst (λ (marks : List BookieMarks). IsPlanAsked c.args.asked.now state marks planned) c.deref.ensures.value is;
      }
      | Err fault ↦ λ none. none
    ] c.plan_state.ensures
