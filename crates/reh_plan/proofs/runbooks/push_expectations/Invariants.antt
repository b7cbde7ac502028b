-- The lines so far and those that are left.
use Rattle.std.proofs.Common.{◌≡◌, ◌++◌, length}
use Rattle.reh_commands.specs.Texts.{text_of}
use Rattle.reh_lines.specs.Lines.{lines_of}
use Rattle.reh_plan.specs.Runbooks.{with_expectations}
use Rattle.reh_plan.proofs.runbooks.push_expectations.Given as goal

abbrev pub invariant-loop-rest : goal.invariant-loop-rest
invariant-loop-rest l =
    l.text.items ++ text_of (with_expectations l.names (lines_of l.rest))
    ≡ l.fn.text.items ++ text_of (with_expectations l.names (lines_of l.script))

abbrev pub decreases-loop-rest : goal.decreases-loop-rest
decreases-loop-rest l = length l.rest
