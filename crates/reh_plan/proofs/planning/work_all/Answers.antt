-- The plan goes on at each ledger, and the rules stay.
use Rattle.std.proofs.Common.{◌∙◌, refl, subst}
use Rattle.reh_plan.specs.Plans.{Works}
use Rattle.reh_plan.proofs.PlanLaws.{works_none, works_on}
use Rattle.reh_plan.proofs.planning.work_all.Goals as goal

pub loop-place-init : goal.loop-place-init
loop-place-init c = record {
  works = works_none c.args.workers.now.rules c.args.plan.now;
  rules = refl;
}

pub loop-place-preserved : goal.loop-place-preserved
loop-place-preserved c = record {
  works =
      works_on c.args.workers.now.rules c.args.plan.now c.loop-place.plan c.work_at.new.plan
      (subst (λ rules. Works rules c.loop-place.plan c.work_at.new.plan) c.loop-place.invariant.rules
      c.work_at.ensures.works)
      c.loop-place.invariant.works;
  rules = c.work_at.ensures.rules ∙ c.loop-place.invariant.rules;
}

pub returns-clause-works : goal.returns-clause-works
returns-clause-works c = c.loop-place.invariant.works

pub returns-clause-rules : goal.returns-clause-rules
returns-clause-rules c = c.loop-place.invariant.rules
