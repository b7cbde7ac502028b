-- A ticket that was issued, what its scan gave, and how it was finished with.
use Rattle.std.proofs.Common.{inr}
use Rattle.reh_crew.specs.Workers.{seated}
use Rattle.reh_crew.proofs.drives.attend.Goals as goal

pub returns-in-Ok-clause-attends : goal.returns-in-Ok-clause-attends
returns-in-Ok-clause-attends g c = inr (record {
  ticket = c.in-Ok.ticket;
  aim = c.in-Ok.ensures.aim;
  mid = seated c.checkout.new.self c.checkout.new.seat;
  issued = record { goes = c.in-Ok.ensures.goes; seat = c.in-Ok.ensures.seat };
  found = c.scan.result;
  scanned = c.scan.ensures.scans;
  is_scan = c.scan.ensures.is_scan;
  finished = c.finish.ensures.finishes;
})
