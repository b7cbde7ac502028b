-- The plan is for what the picture shows.
use Rattle.std.proofs.Common.{subst, List, ℕ}
use Rattle.std.specs.Prelude.{IfOk, Result, Ok, Err}
use Rattle.reh_model.specs.Cluster.{Cluster}
use Rattle.rehearse.specs.Plans.{IsAsked, IsPlan, IsPlanFor}
use Rattle.rehearse.specs.declared.plans.Asked.{Asked}
use Rattle.rehearse.proofs.plans.plan_of.Goals as goal

pub returns-in-Ok : goal.returns-in-Ok
returns-in-Ok c =
    let state : Cluster = c.in_ok-state.state in
    let asked : Asked = c.in-Ok.asked in
    elim c.plan_by.result as (λ r. IfOk r (IsPlan state asked) → IfOk r (IsPlanFor c.args.bytes.now c.args.words.now)) [
      | Ok planned ↦ λ is. record {
        state = state;
        shown = c.in_ok-state.ensures;
        asked = asked;
        is_asked = subst (λ (names : List (List ℕ)). IsAsked c.args.bytes.now names c.args.words.now asked) c.names.ensures.names
            c.in-Ok.ensures;
        is_plan = is;
      }
      | Err fault ↦ λ none. none
    ] c.plan_by.ensures
