-- What is tried is taken back.
use Rattle.reh_plan.proofs.PlanLaws.{works_on, works_tried}
use Rattle.reh_plan.proofs.planning.publish.Goals as goal

pub returns-then-branch : goal.returns-then-branch
returns-then-branch c = λ rules.
    works_on rules c.args.plan.now c.would_publish.new.plan c.audit.new.plan (c.audit.ensures rules)
    (works_tried rules c.args.plan.now c.would_publish.new.plan c.would_publish.ensures)

pub returns-then-has_task : goal.returns-then-has_task
returns-then-has_task c = λ rules.
    works_on rules c.args.plan.now c.would_publish.new.plan c.enable.new.plan (c.enable.ensures rules)
    (works_tried rules c.args.plan.now c.would_publish.new.plan c.would_publish.ensures)
