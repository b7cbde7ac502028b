-- Another worker's lock is given back first.
use Rattle.std.proofs.Common.{refl}
use Rattle.reh_plan.specs.Plans.{Draft, Works}
use Rattle.reh_plan.proofs.PlanLaws.{works_done, works_none, works_same}
use Rattle.reh_plan.proofs.repairs.Repair.lock.Goals as goal
use Rattle.reh_plan.proofs.repairs.Repair.lock.Goals.{in-Some-2+in_ok-work-in-Some-2, in-None}

pub returns : goal.returns
returns c = λ rules may.
    let d : Draft = c.args.plan.now in
    let free : Works rules d c.match-owner.plan =
    elim c.match-owner.branch [
      | in-Some-2+in_ok-work-in-Some-2 w ↦
          works_same rules d w.work.new.self c.match-owner.plan w.plan-is
          (works_done rules d d w.work.new.self _ w.work.result w.work.ensures.ok w.work.ensures.err refl
          (works_none rules d))
      | in-None w ↦ works_same rules d d c.match-owner.plan w.plan-is (works_none rules d)
    ] in
    works_done rules d c.match-owner.plan c.work-2.new.self _ c.work-2.result c.work-2.ensures.ok c.work-2.ensures.err may free
