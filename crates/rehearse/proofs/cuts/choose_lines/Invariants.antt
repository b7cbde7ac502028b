-- The lines that came so far.
use Rattle.rehearse.specs.Cuts.{IsChoosing}
use Rattle.rehearse.proofs.cuts.choose_lines.Given as goal

abbrev pub invariant-loop-number : goal.invariant-loop-number
invariant-loop-number g l = IsChoosing l.ids l.chosen
