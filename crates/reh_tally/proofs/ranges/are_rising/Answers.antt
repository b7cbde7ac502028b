use Rattle.std.proofs.Common.{◌-◌, ◌<◌, get_or, arith}
use Rattle.reh_census.specs.declared.ledgers.Range.{Range}
use Rattle.reh_tally.proofs.RangeLaws.{order-more, some-more}
use Rattle.reh_tally.proofs.ranges.are_rising.Goals as goal
use Rattle.reh_tally.proofs.ranges.are_rising.Goals.{else-index-gt0-via-then-index-gt0+else-ranges-index-2, else-index-gt0-via-else-index-gt0}

pub loop-index-preserved : goal.loop-index-preserved
loop-index-preserved c =
    let z : Range = record { first = 0; last = 0 } in
    let close : 0 < c.loop-index.index
    → (get_or c.args.ranges.now (c.loop-index.index - 1) z).last < (get_or c.args.ranges.now c.loop-index.index z).first =
    λ some. elim c.else-index-gt0.branch [
      | else-index-gt0-via-then-index-gt0+else-ranges-index-2 w ↦ w.if-ranges-index-2.false
      | else-index-gt0-via-else-index-gt0 w ↦ absurd (omega (arith, some, w.if-index-gt0.false))
    ] in
    record {
      some = some-more c.args.ranges.now c.loop-index.index z c.loop-index-test.true c.loop-index.invariant.some c.if-ranges-index.false;
      order = order-more c.args.ranges.now c.loop-index.index z c.loop-index-test.true c.loop-index.invariant.some c.loop-index.invariant.order close;
    }
