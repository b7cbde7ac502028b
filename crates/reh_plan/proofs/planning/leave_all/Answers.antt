-- One comment more.
use Rattle.reh_plan.proofs.NamedLaws.{comments_more}
use Rattle.reh_plan.proofs.planning.leave_all.Goals as goal

pub loop-one-preserved : goal.loop-one-preserved
loop-one-preserved c =
    comments_more c.args.plan.now c.loop-one.plan c.leave.new.self c.args.left.now c.loop-one.one-index c.one-item.result
    c.loop-one-test.true c.one-item.is c.loop-one.invariant c.in_ok-leave.ensures
