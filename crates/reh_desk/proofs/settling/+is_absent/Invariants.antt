use Rattle.std.proofs.Common.{length}
use Rattle.reh_desk.proofs.settling.+is_absent.Given as goal

abbrev pub decreases-is_absent : goal.decreases-is_absent
decreases-is_absent l = length l.seats.now
