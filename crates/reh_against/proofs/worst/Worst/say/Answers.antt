-- The worst are those that are kept.
use Rattle.std.proofs.Common.{List, map, string_bytes, sym, subst}
use Rattle.std.specs.Prelude.{All}
use Rattle.reh_census.specs.Bookies.{bookies_of, is_flagged}
use Rattle.reh_against.specs.declared.kept.Kept.{Kept}
use Rattle.reh_against.specs.Weighed.{IsAmong, found_of}
use Rattle.reh_against.specs.Worst.{Each, IsAgainst}
use Rattle.reh_against.proofs.worst.Worst.say.Goals as goal

pub returns : goal.returns
returns c = λ ids ledgers was. record {
  worst = map found_of c.args.self.now.kept.items;
  chosen = was.chosen;
  said =
      subst (λ (kept : List Kept).
      Each (IsAgainst (map string_bytes c.args.stop.now.names.now) ledgers (bookies_of c.args.stop.now.bookies.now)
      c.args.stop.now.question.now.keep (is_flagged c.args.stop.now.stopped.now) c.args.stop.now.answer.now)
      (map found_of kept) c.in_ok-against.against.items)
      c.deref.ensures.value
      (c.in_ok-against.ensures ledgers
      (subst (λ (kept : List Kept). All (IsAmong ledgers) kept) (sym c.deref.ensures.value) was.among));
}
