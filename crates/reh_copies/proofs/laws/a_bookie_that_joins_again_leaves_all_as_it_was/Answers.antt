use Rattle.reh_copies.proofs.EventLaws.{lose-join}
use Rattle.reh_copies.proofs.laws.a_bookie_that_joins_again_leaves_all_as_it_was.Goals as goal

pub returns : goal.returns
returns c = lose-join
