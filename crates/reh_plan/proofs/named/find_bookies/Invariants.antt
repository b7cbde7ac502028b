-- The bookies of the words that are passed.
use Rattle.reh_plan.proofs.NamesLaws.{AreNamedBelow}
use Rattle.reh_plan.proofs.named.find_bookies.Given as goal

abbrev pub invariant-loop-number : goal.invariant-loop-number
invariant-loop-number l = AreNamedBelow l.names l.words l.number l.bookies
