use Rattle.std.proofs.Common.{◌∙◌, ap}
use Rattle.reh_census.specs.declared.answers.Numbers.{Numbers}
use Rattle.reh_census.specs.Answers.{answer_by}
use Rattle.reh_rules.proofs.numbers.answer_of.Goals as goal

pub returns-clause-census : goal.returns-clause-census
returns-clause-census c = c.answer_by.ensures ∙ ap (λ (numbers : Numbers). answer_by numbers) c.numbers_of-numbers.ensures.census

pub returns-clause-ledgers : goal.returns-clause-ledgers
returns-clause-ledgers c ledgers counts =
    c.answer_by.ensures ∙ ap (λ (numbers : Numbers). answer_by numbers) (c.numbers_of-numbers.ensures.ledgers ledgers counts)
