use Rattle.reh_census.proofs.CountingLaws.{IsCensus-sum}
use Rattle.reh_census.proofs.laws.censuses_add_up.Goals as goal

pub returns : goal.returns
returns c = IsCensus-sum
