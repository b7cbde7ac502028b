use Rattle.std.proofs.Common.{arith}
use Rattle.reh_tally.proofs.RangeLaws.{end-more, told-more}
use Rattle.reh_tally.proofs.ranges.next_of.Goals as goal

pub loop-range-preserved : goal.loop-range-preserved
loop-range-preserved c = record {
  later = c.next_after-next.ensures.later;
  within = omega (arith, c.next_after-next.ensures.within, c.loop-range.invariant.within);
  end =
      end-more c.args.ranges.now c.loop-range.range-index _ c.args.stop c.loop-range.next c.next_after-next.result c.loop-range-test.true
      c.loop-range.invariant.end c.next_after-next.ensures.end;
  same = λ entry from below.
      told-more c.args.ranges.now c.loop-range.range-index entry c.args.at _ c.loop-range-test.true
      (c.loop-range.invariant.same entry from (omega (arith, below, c.next_after-next.ensures.within)))
      (c.next_after-next.ensures.same entry from below);
}
