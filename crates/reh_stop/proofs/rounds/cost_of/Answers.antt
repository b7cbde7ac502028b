-- What inputs show together is counted as their ledgers are.
use Rattle.reh_stop.proofs.GatheredLaws.{all_counted}
use Rattle.reh_stop.proofs.rounds.cost_of.Goals as goal

pub returns : goal.returns
returns c = record {
  census = c.in_ok-risk.ensures.census;
  ledgers = λ ledgers are. c.in_ok-risk.ensures.ledgers ledgers (all_counted c.args.gathered.now ledgers are);
}
