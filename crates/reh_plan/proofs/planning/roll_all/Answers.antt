-- The plan goes on at each ledger, and the rules stay.
use Rattle.std.proofs.Common.{◌∙◌, ap, subst}
use Rattle.reh_plan.specs.Plans.{Works}
use Rattle.reh_plan.specs.Workers.{Rules, Workers}
use Rattle.reh_plan.proofs.PlanLaws.{works_on, works_same}
use Rattle.reh_plan.proofs.planning.roll_all.Goals as goal
use Rattle.reh_plan.proofs.planning.roll_all.Goals.{in-Some+in_ok-go_on, in_default}

pub loop-place-preserved : goal.loop-place-preserved
loop-place-preserved c =
    let rules : Rules = c.args.workers.now.rules in
    let same = c.loop-place.invariant.rules in
    elim c.match-repair_at.branch [
      | in-Some+in_ok-go_on w ↦ record {
        works =
            works_same rules c.args.plan.now w.roll-rolled.new.plan c.match-repair_at.plan w.plan-is
            (works_on rules c.args.plan.now c.loop-place.plan w.roll-rolled.new.plan
            (subst (λ (x : Rules). Works x c.loop-place.plan w.roll-rolled.new.plan) same w.roll-rolled.ensures.works)
            c.loop-place.invariant.works);
        rules = ap (λ (x : Workers). x.rules) w.workers-is ∙ w.roll-rolled.ensures.rules ∙ same;
      }
      | in_default w ↦ record {
        works =
            works_same rules c.args.plan.now c.loop-place.plan c.match-repair_at.plan w.plan-is c.loop-place.invariant.works;
        rules = ap (λ (x : Workers). x.rules) w.workers-is ∙ same;
      }
    ]
