use Rattle.std.proofs.Common.{◌+◌, ◌-◌, ◌/◌, ◌<◌, ℕ, arith}
use Rattle.reh_tally.proofs.RangeLaws.{ended-below}
use Rattle.reh_tally.proofs.ranges.passed_before.Goals as goal

half : (low high : ℕ) → low < high → low + (high - low) / 2 < high
half low high order = omega (arith, order)

pub loop-low-preserved-then-ranges-middle : goal.loop-low-preserved-then-ranges-middle
loop-low-preserved-then-ranges-middle c =
    let middle : ℕ = c.loop-low.low + (c.loop-low.high - c.loop-low.low) / 2 in
    let below : c.loop-low.low + (c.loop-low.high - c.loop-low.low) / 2 < c.loop-low.high =
    half c.loop-low.low c.loop-low.high c.loop-low-test.true in
    record {
      order = omega (arith, below);
      within = c.loop-low.invariant.within;
      passed = ended-below c.args.ranges.now middle c.args.at _ c.requires (omega (arith, below, c.loop-low.invariant.within)) c.if-ranges-middle.true;
    }
