-- What balances has no open group.
use Rattle.reh_crew.proofs.WholeLaws.{groups_whole}
use Rattle.reh_crew.proofs.laws.driven_groups_are_whole.Goals as goal

pub returns : goal.returns
returns c = groups_whole
