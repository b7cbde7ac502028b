-- What was found, and what is to be found in the lines that are left.
use Rattle.std.proofs.Common.{◌≡◌, ◌+◌, ◌++◌, ◌≤◌, length, string_bytes}
use Rattle.std.specs.List.{filter}
use Rattle.reh_lines.specs.Lines.{lines_of}
use Rattle.reh_lint.specs.Lints.{findings, is_command, is_faulty}
use Rattle.reh_lint.proofs.lints.lint_lines.Given as goal

abbrev pub invariant-loop-rest : goal.invariant-loop-rest
invariant-loop-rest l =
    (string_bytes l.lint.text ++ findings l.path l.known.state.now (l.number + 1) (lines_of l.rest)
    ≡ findings l.path l.known.state.now 1 (lines_of l.text))
    × (l.lint.commands + length (filter (is_command l.known.state.now.names) (lines_of l.rest))
    ≡ length (filter (is_command l.known.state.now.names) (lines_of l.text)))
    × (l.lint.faulty + length (filter (is_faulty l.known.state.now.names) (lines_of l.rest))
    ≡ length (filter (is_faulty l.known.state.now.names) (lines_of l.text)))
    × (l.number + length l.rest ≤ length l.text)
    × (l.lint.commands ≤ l.number)
    × (l.lint.faulty ≤ l.number)

abbrev pub decreases-loop-rest : goal.decreases-loop-rest
decreases-loop-rest l = length l.rest
