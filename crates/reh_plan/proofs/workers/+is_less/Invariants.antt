-- Each call compares one number less.
use Rattle.std.proofs.Common.{length}
use Rattle.reh_plan.proofs.workers.+is_less.Given as goal

abbrev pub decreases-is_less : goal.decreases-is_less
decreases-is_less l = length l.ranks.now
