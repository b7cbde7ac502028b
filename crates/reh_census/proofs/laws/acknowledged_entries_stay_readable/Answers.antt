use Rattle.reh_census.proofs.TailLaws.{acknowledged, acknowledged-up}
use Rattle.reh_census.proofs.laws.acknowledged_entries_stay_readable.Goals as goal

pub returns-clause-left : goal.returns-clause-left
returns-clause-left c = acknowledged

pub returns-clause-up : goal.returns-clause-up
returns-clause-up c = acknowledged-up
