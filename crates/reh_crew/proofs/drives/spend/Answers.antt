-- A spend that is a fault, and then the discard of what was found.
use Rattle.std.proofs.Common.{inr}
use Rattle.reh_crew.specs.Workers.{seated}
use Rattle.reh_crew.proofs.drives.spend.Goals as goal

pub returns-in-Err-clause-spends : goal.returns-in-Err-clause-spends
returns-in-Err-clause-spends g c = inr (
  c.in-Err.fault.cause,
  seated c.spend.new.self c.spend.new.seat,
  record { goes = c.in-Err.ensures.goes; seat = c.in-Err.ensures.seat },
  rw c.in-Err.ensures.back at c.give_back.ensures.given,
)
