use Rattle.std.proofs.Common.{length}
use Rattle.reh_desk.proofs.settling.+are_below.Given as goal

abbrev pub decreases-are_below : goal.decreases-are_below
decreases-are_below l = length l.seats.now
