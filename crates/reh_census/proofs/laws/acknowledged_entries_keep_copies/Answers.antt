use Rattle.reh_census.proofs.TailLaws.{acknowledged-copies}
use Rattle.reh_census.proofs.laws.acknowledged_entries_keep_copies.Goals as goal

pub returns : goal.returns
returns c = acknowledged-copies
