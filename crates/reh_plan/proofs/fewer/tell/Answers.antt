-- One comment more.
use Rattle.std.proofs.Common.{◌∙◌}
use Rattle.reh_plan.proofs.FewerLaws.{told-more}
use Rattle.reh_plan.proofs.fewer.tell.Goals as goal

pub loop-found-preserved : goal.loop-found-preserved
loop-found-preserved c =
    told-more c.args.plan.now c.loop-found.plan c.remark.new.self c.args.fewer.now c.loop-found.found-index
    c.found-item.result c.as_bytes.result.now c.loop-found-test.true c.found-item.is
    (c.as_bytes.ensures.value ∙ c.in_ok-line.ensures) c.loop-found.invariant c.in_ok-remark.ensures
