-- The ranges that are passed end before the entry.
use Rattle.std.proofs.Common.{◌-◌, length}
use Rattle.reh_tally.specs.Stretches.{ArePassed}
use Rattle.reh_tally.proofs.ranges.first_at.Given as goal

abbrev pub invariant-loop-index : goal.invariant-loop-index
invariant-loop-index l = ArePassed l.ranges l.index l.at

abbrev pub decreases-loop-index : goal.decreases-loop-index
decreases-loop-index l = length l.ranges - l.index
