use Rattle.reh_census.proofs.AnswerLaws.{yes-part-in, yes-part-of}
use Rattle.reh_census.proofs.laws.a_part_of_a_yes_is_a_yes.Goals as goal

pub returns-clause-census : goal.returns-clause-census
returns-clause-census c = yes-part-in

pub returns-clause-ledgers : goal.returns-clause-ledgers
returns-clause-ledgers c = yes-part-of
