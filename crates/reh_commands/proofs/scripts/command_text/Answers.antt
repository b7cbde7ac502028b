-- The line is that of the command's verb and of what it is about, and is read back.
use Rattle.std.proofs.Common.{◌≡◌, List, ℕ, false, string_bytes, Some, Ok}
use Rattle.std.specs.Prelude.{◌==◌}
use Rattle.std.specs.List.{list_any}
use Rattle.reh_commands.specs.Script.{command_of_line}
use Rattle.reh_commands.proofs.PrintLaws.{each_line, told_text}
use Rattle.reh_commands.proofs.scripts.command_text.Goals as goal

pub returns-clause-read : goal.returns-clause-read
returns-clause-read c =
    let names : List (List ℕ) = c.args.names.now in
    each_line string_bytes names c.args.command.now (λ line. command_of_line names line ≡ Some (Ok c.args.command.now))
    (λ line h. h.0) c.len-different.ensures.different c.line_for.result
    (told_text string_bytes names c.args.command.now c.in-Some.verb c.in-Some.arguments c.in-Some.ensures.parts
    c.line_for.result c.line_for.ensures)

pub returns-clause-one_line : goal.returns-clause-one_line
returns-clause-one_line c =
    let names : List (List ℕ) = c.args.names.now in
    each_line string_bytes names c.args.command.now (λ line. list_any (λ b. b == 10) line ≡ false)
    (λ line h. h.1) c.len-different.ensures.different c.line_for.result
    (told_text string_bytes names c.args.command.now c.in-Some.verb c.in-Some.arguments c.in-Some.ensures.parts
    c.line_for.result c.line_for.ensures)
