-- One fragment more.
use Rattle.reh_plan.specs.Racks.{fewer_at}
use Rattle.reh_plan.proofs.FewerLaws.{numbered-more}
use Rattle.reh_plan.proofs.fewer.add_fewer.Goals as goal

pub loop-fragment-preserved : goal.loop-fragment-preserved
loop-fragment-preserved c =
    numbered-more (fewer_at c.args.racks.now c.args.before.now c.args.ledger.now) c.loop-fragment.fragment
    c.args.fewer.now.items c.loop-fragment.fewer.items c.push_fewer.new.fewer.items c.loop-fragment.invariant
    c.in_ok-push_fewer.ensures
