-- One range more is written.
use Rattle.reh_picture_out.specs.Written.{range_data}
use Rattle.reh_picture_out.proofs.Lists.{made_there}
use Rattle.reh_picture_out.proofs.contents.range_values.Goals as goal

pub loop-range-preserved : goal.loop-range-preserved
loop-range-preserved c =
    rw c.in_ok-push.ensures.items
    (made_there range_data c.args.ranges.now c.loop-range.range-index _ c.loop-range-test.true
    c.loop-range.values.items _ c.loop-range.invariant c.in_ok-range_value.ensures)
