use Rattle.reh_census.proofs.AnswerLaws.{yes-zero, zero-yes}
use Rattle.reh_census.proofs.laws.yes_is_nothing_broken.Goals as goal

pub returns-clause-yes : goal.returns-clause-yes
returns-clause-yes c = yes-zero

pub returns-clause-zero : goal.returns-clause-zero
returns-clause-zero c = zero-yes
