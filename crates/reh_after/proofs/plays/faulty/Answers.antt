-- The answer is the fault's text.
use Rattle.reh_after.proofs.AfterLaws.{told}
use Rattle.reh_after.proofs.plays.faulty.Goals as goal

pub returns : goal.returns
returns c = told _ _ c.format.result _ c.unaccepted.ensures c.format.ensures.ok
