-- Along a tape that leaves no ticket out, issues and ends are as many.
use Rattle.reh_crew.proofs.BalanceLaws.{issues-history}
use Rattle.reh_crew.proofs.laws.closed_desks_balance.Goals as goal

pub returns : goal.returns
returns c = issues-history
