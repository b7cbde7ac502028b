-- What was found, and what is to be found in the lines that are left.
use Rattle.std.proofs.Common.{◌≡◌, ◌+◌, ◌≤◌, length}
use Rattle.std.specs.Prelude.{flat_map}
use Rattle.std.specs.List.{filter}
use Rattle.json.specs.Tree.{json_tokens}
use Rattle.reh_lines.specs.Lines.{lines_of}
use Rattle.reh_lint.specs.Lints.{is_command, is_faulty}
use Rattle.reh_check_json.specs.Scripts.{found}
use Rattle.reh_check_json.proofs.TokenLaws.{Leaves}
use Rattle.reh_check_json.proofs.scripts.add_lines.Given as goal

abbrev pub invariant-loop-rest : goal.invariant-loop-rest
invariant-loop-rest l =
    Leaves (flat_map json_tokens (found l.known.state.now (l.number + 1) (lines_of l.rest)))
    (flat_map json_tokens (found l.known.state.now 1 (lines_of l.text))) l.fn.json l.json
    × (l.counts.commands + length (filter (is_command l.known.state.now.names) (lines_of l.rest))
    ≡ length (filter (is_command l.known.state.now.names) (lines_of l.text)))
    × (l.counts.faulty + length (filter (is_faulty l.known.state.now.names) (lines_of l.rest))
    ≡ length (filter (is_faulty l.known.state.now.names) (lines_of l.text)))
    × (l.number + length l.rest ≤ length l.text)
    × (l.counts.commands ≤ l.number)
    × (l.counts.faulty ≤ l.number)

abbrev pub decreases-loop-rest : goal.decreases-loop-rest
decreases-loop-rest l = length l.rest
