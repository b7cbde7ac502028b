-- Each place is filled by work, and the task's end is work too.
use Rattle.std.proofs.Common.{◌≡◌, ◌∙◌, subst}
use Rattle.reh_plan.specs.Plans.{Draft, Works}
use Rattle.reh_plan.specs.Workers.{Rules}
use Rattle.reh_plan.proofs.PlanLaws.{works_on}
use Rattle.reh_plan.proofs.repairs.Repair.work.Goals as goal

filled_on : (rules own : Rules) (d p n : Draft) → own ≡ rules → Works own p n → Works rules d p → Works rules d n
filled_on rules own d p n same filled before =
    works_on rules d p n (subst (λ (x : Rules). Works x p n) same filled) before

pub returns-in_err-go_on-2-clause-works : goal.returns-in_err-go_on-2-clause-works
returns-in_err-go_on-2-clause-works c =
    filled_on c.args.workers.now.rules c.loop-gap.workers.rules c.args.plan.now c.loop-gap.plan c.fill-filled.new.plan
    c.loop-gap.invariant.rules c.fill-filled.ensures.works c.loop-gap.invariant.works

pub loop-gap-preserved : goal.loop-gap-preserved
loop-gap-preserved c = record {
  works =
      filled_on c.args.workers.now.rules c.loop-gap.workers.rules c.args.plan.now c.loop-gap.plan c.fill-filled.new.plan
      c.loop-gap.invariant.rules c.fill-filled.ensures.works c.loop-gap.invariant.works;
  rules = c.fill-filled.ensures.rules ∙ c.loop-gap.invariant.rules;
}

pub returns-clause-works : goal.returns-clause-works
returns-clause-works c =
    works_on c.args.workers.now.rules c.args.plan.now c.loop-gap.plan c.end-ended.new.plan
    (c.end-ended.ensures c.args.workers.now.rules) c.loop-gap.invariant.works
