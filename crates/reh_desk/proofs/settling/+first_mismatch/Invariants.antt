use Rattle.std.proofs.Common.{length}
use Rattle.reh_desk.proofs.settling.+first_mismatch.Given as goal

abbrev pub decreases-first_mismatch : goal.decreases-first_mismatch
decreases-first_mismatch l = length l.seats.now
