-- The contents so far have no fault.
use Rattle.reh_picture.proofs.MarksLemmas.{assumed_at}
use Rattle.reh_picture.proofs.Lists.{IsLeft}
use Rattle.reh_picture.proofs.marks.check_each_content.Given as goal

abbrev pub invariant-loop-i : goal.invariant-loop-i
invariant-loop-i l = IsLeft assumed_at l.contents l.i
