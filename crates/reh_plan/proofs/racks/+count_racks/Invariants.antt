-- Each call counts one rack less.
use Rattle.std.proofs.Common.{length}
use Rattle.reh_plan.proofs.racks.+count_racks.Given as goal

abbrev pub decreases-count_racks : goal.decreases-count_racks
decreases-count_racks l = length l.racks.now
