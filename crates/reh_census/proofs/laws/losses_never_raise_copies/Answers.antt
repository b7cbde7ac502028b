use Rattle.reh_census.proofs.RuleLaws.{left-part}
use Rattle.reh_census.proofs.laws.losses_never_raise_copies.Goals as goal

pub returns : goal.returns
returns c = left-part
