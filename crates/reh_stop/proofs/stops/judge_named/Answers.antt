-- What inputs show together is counted as their ledgers are.
use Rattle.std.proofs.Common.{◌∙◌}
use Rattle.reh_answer.specs.Facts.{facts_on, most_copies}
use Rattle.reh_census.specs.Bookies.{bookies_of, holders, is_flagged}
use Rattle.reh_census.specs.Counting.{counting_of}
use Rattle.reh_stop.specs.Stops.{IsUnsaid}
use Rattle.reh_stop.proofs.FaultLaws.{if_err, misnamed}
use Rattle.reh_stop.proofs.GatheredLaws.{all_counted}
use Rattle.reh_stop.proofs.MostLaws.{in_ledgers}
use Rattle.reh_stop.proofs.stops.judge_named.Goals as goal

pub returns-in_err-check_names-clause-fault : goal.returns-in_err-check_names-clause-fault
returns-in_err-check_names-clause-fault c =
    let cluster = c.args.gathered.now.cluster in
    let named = c.args.named.now in
    let fault = c.in_err-check_names.field-0.0 in
    if_err (IsUnsaid cluster named) _ fault c.from_residual.ensures.1
    (misnamed cluster named fault c.in_err-check_names.ensures.fault)

pub returns-clause-ledgers : goal.returns-clause-ledgers
returns-clause-ledgers c = λ ledgers are.
    let g = c.args.gathered.now in
    let counted = all_counted g ledgers are in (
      most_copies g.census.entries,
      in_ledgers g.census (holders (bookies_of g.bookies)) ledgers counted,
      c.in_ok-facts.ensures.ledgers ledgers counted
          ∙ (λ i.
          facts_on (counting_of (holders (bookies_of g.bookies)) ledgers) (most_copies g.census.entries) (bookies_of g.bookies)
          c.args.named.now.question g.census.judged (is_flagged (c.in_ok-stopped.ensures i))),
    )
