use Rattle.std.proofs.Common.{length}
use Rattle.reh_inputs.proofs.named.+taken_of.Given as goal

abbrev pub decreases-taken_of : goal.decreases-taken_of
decreases-taken_of l = length l.inputs.now
