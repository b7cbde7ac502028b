-- One range more.
use Rattle.std.proofs.Common.{get_or, refl}
use Rattle.reh_inputs.specs.Ledgers.{range_of}
use Rattle.reh_inputs.proofs.RangeLaws.{pushed}
use Rattle.reh_inputs.proofs.ledgers.ranges_of.Goals as goal

pub loop-range-preserved : goal.loop-range-preserved
loop-range-preserved c =
    pushed range_of c.args.ranges.now c.loop-range.range-index (0, 0) c.loop-range.copy.items c.push.new.self.items
    (range_of (get_or c.args.ranges.now c.loop-range.range-index (0, 0))) c.loop-range-test.true c.in_ok-push.ensures.items refl
    c.loop-range.invariant
