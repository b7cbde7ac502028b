use Rattle.reh_census.proofs.InOrderLaws.{Rising-in_order, is_in-in_order}
use Rattle.reh_census.proofs.YesLaws.{replaceable-in_order}
use Rattle.reh_census.proofs.laws.an_ensemble_in_order_is_the_same.Goals as goal

pub returns-clause-rising : goal.returns-clause-rising
returns-clause-rising c = Rising-in_order

pub returns-clause-same : goal.returns-clause-same
returns-clause-same c = is_in-in_order

pub returns-clause-replaceable : goal.returns-clause-replaceable
returns-clause-replaceable c = replaceable-in_order
