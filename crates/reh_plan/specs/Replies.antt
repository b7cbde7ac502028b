-- What is printed where each line of a script that has an answer is answered `ok`.
use Rattle.std.specs.Prelude.{ℕ, ◌+◌, List, [], ◌∷◌, ◌++◌, Option, None, Some, Result, codes}
use Rattle.reh_commands.specs.Answers.{asked, numbered}
use Rattle.reh_commands.specs.declared.commands.Command.{Command}
use Rattle.reh_commands.specs.declared.commands.LineFault.{LineFault}

abbrev pub ok_answer : ℕ → Option (Result Command LineFault) → List ℕ
ok_answer n None = []
ok_answer n (Some asked) = numbered n (codes "ok\n")

-- the answers to lines, of which the first is the n-th
abbrev pub ok_answers : List (List ℕ) → ℕ → List (List ℕ) → List ℕ
ok_answers names n [] = []
ok_answers names n (line ∷ lines) = ok_answer n (asked names line) ++ ok_answers names (n + 1) lines
