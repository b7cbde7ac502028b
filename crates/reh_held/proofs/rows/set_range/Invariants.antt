use Rattle.reh_held.proofs.RangeLaws.{IsFilling}
use Rattle.reh_held.proofs.rows.set_range.Given as goal

abbrev pub invariant-loop-number : goal.invariant-loop-number
invariant-loop-number l = IsFilling l.fn.words.items l.first l.last l.number l.words.items
