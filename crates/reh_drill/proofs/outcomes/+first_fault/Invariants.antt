use Rattle.std.proofs.Common.{length}
use Rattle.reh_drill.proofs.outcomes.+first_fault.Given as goal

abbrev pub decreases-first_fault : goal.decreases-first_fault
decreases-first_fault l = length l.outcomes.now
