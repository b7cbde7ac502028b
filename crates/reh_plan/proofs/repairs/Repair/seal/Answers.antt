-- The worker has the lock, after what is tried is taken back.
use Rattle.reh_plan.specs.Plans.{Draft, Works}
use Rattle.reh_plan.specs.Workers.{Rules}
use Rattle.reh_plan.proofs.PlanLaws.{works_done, works_on, works_tried}
use Rattle.reh_plan.proofs.repairs.Repair.seal.Goals as goal

pub returns : goal.returns
returns c =
    let rules : Rules = c.args.workers.now.rules in
    let d : Draft = c.args.plan.now in
    let may = c.in_ok-worker.ensures.may in
    let tried : Works rules d c.check_locked.new.plan =
    works_tried rules d c.check_locked.new.plan c.check_locked.ensures in
    works_done rules d c.lock.new.plan c.work.new.self _ c.work.result c.work.ensures.ok c.work.ensures.err may
    (works_on rules d c.check_locked.new.plan c.lock.new.plan (c.lock.ensures rules may) tried)
