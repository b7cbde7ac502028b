-- The end of a task is work of whoever has its lock.
use Rattle.std.proofs.Common.{refl}
use Rattle.reh_plan.proofs.PlanLaws.{works_done, works_none}
use Rattle.reh_plan.proofs.repairs.Repair.end.Goals as goal

pub returns-in_default-work-2 : goal.returns-in_default-work-2
returns-in_default-work-2 c = λ rules.
    works_done rules c.args.plan.now c.args.plan.now c.work.new.self _ c.work.result c.work.ensures.ok c.work.ensures.err refl
    (works_none rules c.args.plan.now)
