-- The ranges below end before the entry.
use Rattle.std.proofs.Common.{◌-◌, ◌≤◌, length}
use Rattle.reh_tally.specs.Stretches.{ArePassed}
use Rattle.reh_tally.proofs.ranges.passed_before.Given as goal

abbrev pub invariant-loop-low : goal.invariant-loop-low
invariant-loop-low l = record {
  order : l.low ≤ l.high;
  within : l.high ≤ length l.ranges;
  passed : ArePassed l.ranges l.low l.at;
}

abbrev pub decreases-loop-low : goal.decreases-loop-low
decreases-loop-low l = l.high - l.low
