-- What is printed for a line.
use Rattle.std.specs.Prelude.{ℕ, List, [], ◌++◌, map, Option, None, Some, Result, codes}
use Rattle.std.specs.Fmt.{decimal}
use Rattle.reh_types.specs.declared.moves.Reply.{Reply}
use Rattle.reh_types.specs.declared.moves.Reply.TheVariants.{Refused}
use Rattle.reh_types.specs.declared.refusals.Refusal.TheVariants.{HandFull, HandEmpty}
use Rattle.reh_model.specs.Cluster.{Cluster}
use Rattle.reh_model.specs.Survey.{survey}
use Rattle.reh_commands.specs.declared.commands.Command.{Command}
use Rattle.reh_commands.specs.declared.commands.Command.TheVariants.{Make, Checkout, Spend, Discard, Report, Survey}
use Rattle.reh_commands.specs.declared.commands.LineFault.{LineFault}
use Rattle.reh_commands.specs.Script.{command_of_line}
use Rattle.reh_commands.specs.Texts.{reply_text, line_fault_text, report, survey_line_text, text_of}

-- what a line asks for, with the bookies of these names; nothing, where the line has no answer
abbrev pub asked : List (List ℕ) → List ℕ → Option (Result Command LineFault)
asked names line = command_of_line names line

-- an answer after its line's number
abbrev pub numbered : ℕ → List ℕ → List ℕ
numbered n answer = codes "line " ++ (decimal n ++ (codes ": " ++ answer))

-- the answers to a reply, and to a line that asks for nothing
abbrev pub reply_answer : List (List ℕ) → Reply → List ℕ
reply_answer names reply = reply_text names reply ++ codes "\n"

abbrev pub fault_answer : LineFault → List ℕ
fault_answer fault = line_fault_text fault ++ codes "\n"

-- what is shown of a state, where there is one to be shown
abbrev pub shown : Option Cluster → (Cluster → List ℕ) → List ℕ
shown None answer = codes "not in a drill\n"
shown (Some s) answer = answer s

abbrev pub report_answer : Cluster → List ℕ
report_answer s = codes "report\n" ++ text_of (report s)

abbrev pub survey_answer : Cluster → List ℕ
survey_answer s = codes "survey\n" ++ text_of (map survey_line_text (survey s))

-- the player's own answer to a command that makes no call: what is shown, or that the hand is full or empty
abbrev pub own_answer : List (List ℕ) → Option Cluster → Command → List ℕ
own_answer names scene (Make move) = []
own_answer names scene (Checkout aim) = reply_answer names (Refused HandFull)
own_answer names scene Spend = reply_answer names (Refused HandEmpty)
own_answer names scene Discard = reply_answer names (Refused HandEmpty)
own_answer names scene Report = shown scene report_answer
own_answer names scene Survey = shown scene survey_answer
