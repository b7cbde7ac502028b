use Rattle.std.proofs.Common.{◌≡◌, ◌++◌, map, take, string_bytes}
use Rattle.reh_commands.specs.Texts.{text_of, survey_line_text}
use Rattle.reh_commands.proofs.surveys.push_survey.Given as goal

-- the lines so far were added
abbrev pub invariant-loop-line : goal.invariant-loop-line
invariant-loop-line l = string_bytes l.text ≡ string_bytes l.fn.text ++ text_of (map survey_line_text (take l.line-index l.lines))
