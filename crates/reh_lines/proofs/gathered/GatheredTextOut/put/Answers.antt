use Rattle.reh_lines.proofs.Gathering.{grows_on}
use Rattle.reh_lines.proofs.gathered.GatheredTextOut.put.Goals as goal

pub returns-then-bytes-capacity-clause-seen : goal.returns-then-bytes-capacity-clause-seen
returns-then-bytes-capacity-clause-seen g c = grows_on _ _ _ c.in_ok-make_room.ensures.seen c.put.ensures.seen
