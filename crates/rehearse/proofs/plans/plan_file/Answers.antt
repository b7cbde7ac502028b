-- The status is that of what is planned, as it is asked for.
use Rattle.std.proofs.Common.{ℕ}
use Rattle.std.specs.Prelude.{◌≡◌, IfOk, Ok, Err}
use Rattle.rehearse.specs.Plans.{IsStatus, status_of_plans}
use Rattle.rehearse.proofs.plans.plan_file.Goals as goal

pub returns : goal.returns
returns g c =
    elim c.write_plans.result
    as (λ r. IfOk r (λ (status : ℕ). status ≡ status_of_plans c.in_ok-planned.planned) → IfOk r (IsStatus c.args.words.now)) [
      | Ok status ↦ λ is. record {
        planned = c.in_ok-planned.planned;
        are_planned = c.in_ok-planned.ensures;
        is_status = is;
      }
      | Err fault ↦ λ none. none
    ] c.write_plans.ensures
