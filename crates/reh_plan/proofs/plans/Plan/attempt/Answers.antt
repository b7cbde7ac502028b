-- The event is one of no bookie.
use Rattle.reh_plan.proofs.PlanLaws.{works_attempted}
use Rattle.reh_plan.proofs.plans.Plan.attempt.Goals as goal

pub returns : goal.returns
returns c = λ rules.
    works_attempted rules c.args.self.now c.work-attempted.new.self c.args.event.now c.work-attempted.result
    c.work-attempted.ensures.ok c.work-attempted.ensures.err c.requires
