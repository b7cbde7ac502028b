use Rattle.reh_census.proofs.CountingLaws.{census-answer, census-numbers}
use Rattle.reh_census.proofs.laws.a_census_gives_the_answer_of_its_ledgers.Goals as goal

pub returns-clause-numbers : goal.returns-clause-numbers
returns-clause-numbers c = census-numbers

pub returns-clause-answer : goal.returns-clause-answer
returns-clause-answer c = census-answer
