-- A wait at the end.
use Rattle.reh_plan.proofs.PlanLaws.{works_on}
use Rattle.reh_plan.proofs.planning.grant_all.Goals as goal

pub returns : goal.returns
returns c =
    works_on c.args.workers.now.rules c.args.plan.now c.loop-place.plan c.wait.new.self (c.wait.ensures c.args.workers.now.rules)
    c.loop-place.invariant
