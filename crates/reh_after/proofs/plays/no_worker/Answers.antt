-- The answer is that text.
use Rattle.reh_after.specs.Faults.{tickets_text}
use Rattle.reh_after.proofs.AfterLaws.{told}
use Rattle.reh_after.proofs.plays.no_worker.Goals as goal

pub returns : goal.returns
returns c = told _ tickets_text c.from_str.result _ c.unaccepted.ensures c.from_str.ensures.ok
