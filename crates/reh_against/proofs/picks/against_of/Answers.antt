-- Of ledgers that are each counted as one.
use Rattle.std.proofs.Common.{List, map, subst, string_bytes}
use Rattle.reh_census.specs.Bookies.{bookies_of, is_flagged}
use Rattle.reh_against.specs.declared.found.Found.{Found}
use Rattle.reh_against.specs.Weights.{weight_of}
use Rattle.reh_against.specs.Worst.{AreWorst, Each, IsAgainst, alone}
use Rattle.reh_against.proofs.FoundLaws.{found-map}
use Rattle.reh_against.proofs.picks.against_of.Goals as goal

pub returns-clause-said : goal.returns-clause-said
returns-clause-said c = record {
  worst = c.in_ok-worst.worst.items;
  chosen =
      subst (λ (found : List Found). AreWorst found c.in_ok-worst.worst.items)
      (found-map alone (weight_of (bookies_of c.args.stop.now.bookies.now) c.args.stop.now.question.now
      (is_flagged c.args.stop.now.stopped.now) c.args.stop.now.answer.now) 0 c.args.ids.now c.args.ledgers.now)
      c.in_ok-worst.ensures.worst;
  said =
      subst (λ (worst : List Found).
      Each (IsAgainst (map string_bytes c.args.stop.now.names.now) (map alone c.args.ledgers.now)
      (bookies_of c.args.stop.now.bookies.now) c.args.stop.now.question.now.keep (is_flagged c.args.stop.now.stopped.now)
      c.args.stop.now.answer.now) worst c.in_ok-against.against.items)
      c.deref.ensures.value c.in_ok-against.ensures;
}
