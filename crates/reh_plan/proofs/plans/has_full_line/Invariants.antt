-- None of the lines so far says it.
use Rattle.std.proofs.Common.{◌≡◌, length}
use Rattle.reh_lines.specs.Lines.{lines_of}
use Rattle.reh_plan.specs.Ends.{says_full}
use Rattle.reh_plan.proofs.plans.has_full_line.Given as goal

abbrev pub invariant-loop-rest : goal.invariant-loop-rest
invariant-loop-rest l = says_full (lines_of l.rest) ≡ says_full (lines_of l.script)

abbrev pub decreases-loop-rest : goal.decreases-loop-rest
decreases-loop-rest l = length l.rest
