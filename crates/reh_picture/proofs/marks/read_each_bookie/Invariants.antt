-- The bookies so far have no fault, and these marks.
use Rattle.reh_picture.specs.Marks.{bookie_marks}
use Rattle.reh_picture.proofs.MarksLemmas.{bookie_marks_at}
use Rattle.reh_picture.proofs.Lists.{HasMade}
use Rattle.reh_picture.proofs.marks.read_each_bookie.Given as goal

abbrev pub invariant-loop-i : goal.invariant-loop-i
invariant-loop-i l = HasMade bookie_marks_at bookie_marks l.bookies l.i l.marks.items
