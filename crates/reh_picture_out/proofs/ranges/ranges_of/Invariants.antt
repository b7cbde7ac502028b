-- The ranges so far, with the one that is open, have the entries so far.
use Rattle.reh_held.specs.Rows.{is_set}
use Rattle.reh_picture_out.specs.Ranges.{IsPassing}
use Rattle.reh_picture_out.proofs.ranges.ranges_of.Given as goal

abbrev pub invariant-loop-entry : goal.invariant-loop-entry
invariant-loop-entry l = IsPassing (is_set l.words) l.entry l.ranges.items l.first
