use Rattle.std.proofs.Common.{length}
use Rattle.reh_cut.proofs.cuts.+check_each.Given as goal

abbrev pub decreases-check_each : goal.decreases-check_each
decreases-check_each l = length l.lines.now
