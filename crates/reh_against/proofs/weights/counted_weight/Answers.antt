-- The numbers are those of the parts.
use Rattle.std.proofs.Common.{◌≡◌, ◌∙◌, ℕ, Bool, List, ap}
use Rattle.reh_census.specs.declared.answers.Numbers.{Numbers}
use Rattle.reh_census.specs.Answers.{numbers_on}
use Rattle.reh_census.specs.Bookies.{Bookies, bookies_of, holders, is_flagged}
use Rattle.reh_census.specs.Counting.{counting_of, not_judged}
use Rattle.reh_census.specs.Ledgers.{Ledger}
use Rattle.reh_against.specs.Weights as model
use Rattle.reh_against.proofs.weights.counted_weight.Goals as goal

pub returns-clause-weight : goal.returns-clause-weight
returns-clause-weight c =
    let bookies : Bookies = bookies_of c.args.stop.now.bookies.now in
    let stopped : ℕ → Bool = is_flagged c.args.stop.now.stopped.now in
    let parts : List Ledger = c.args.parts.now in
    let numbers : c.numbers_of-numbers.result
    ≡ numbers_on (counting_of (holders bookies) parts) bookies (model.without_new c.args.stop.now.question.now) 0 stopped =
    c.numbers_of-numbers.ensures.ledgers parts c.in_ok-census.ensures.census
    ∙ (λ i. numbers_on (counting_of (holders bookies) parts) bookies (c.without_new-question.ensures i)
    (not_judged (c.in_ok-census.ensures.judged i)) stopped) in
    c.weight_by.ensures ∙ ap (λ (n : Numbers). model.weight_by c.args.stop.now.answer.now n) numbers
