-- Three steps, one after another.
use Rattle.reh_plan.specs.Plans.{Works}
use Rattle.reh_plan.proofs.PlanLaws.{works_on}
use Rattle.reh_plan.proofs.planning.audit.Goals as goal

pub returns-in_err-enable : goal.returns-in_err-enable
returns-in_err-enable c = λ rules.
    works_on rules c.args.plan.now c.wait.new.self c.enable.new.plan (c.enable.ensures rules) (c.wait.ensures rules)

pub returns : goal.returns
returns c = λ rules.
    let enabled : Works rules c.args.plan.now c.enable.new.plan =
    works_on rules c.args.plan.now c.wait.new.self c.enable.new.plan (c.enable.ensures rules) (c.wait.ensures rules) in
    works_on rules c.args.plan.now c.enable.new.plan c.attempt.new.self (c.attempt.ensures rules) enabled
