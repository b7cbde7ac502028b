use Rattle.std.proofs.Common.{◌∙◌, ap}
use Rattle.reh_census.specs.declared.questions.Question.{Question}
use Rattle.reh_census.specs.Answers.{answer_on, is_yes}
use Rattle.reh_census.specs.Bookies.{bookies_of, is_flagged}
use Rattle.reh_census.specs.Counting.{counting_in, not_judged}
use Rattle.reh_answer.proofs.keeps.keep_1_allows.Goals as goal

pub returns : goal.returns
returns c =
    c.is_yes.ensures
    ∙ ap is_yes
    (c.answer_of-answer.ensures.census
    ∙ ap (λ (q : Question). answer_on (counting_in c.args.census.now) (bookies_of c.args.bookies.now) q (not_judged c.args.census.now.judged) (is_flagged c.args.stopped.now))
    c.with_keep_1-question.ensures)
