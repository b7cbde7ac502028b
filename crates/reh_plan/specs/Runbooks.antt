-- A plan as a runbook: a script that says what each of its commands is expected to be answered.
use Rattle.std.specs.Prelude.{ℕ, List, [], ◌∷◌, ◌++◌, flat_map, is_some, codes, if◌then◌else◌}
use Rattle.std.specs.Fmt.{decimal}
use Rattle.reh_commands.specs.Answers.{asked}

-- a line, and before a command that `ok` is expected
abbrev pub expected_lines : List (List ℕ) → List ℕ → List (List ℕ)
expected_lines names line =
    if is_some (asked names line) then codes "# expect ok" ∷ line ∷ [] else line ∷ []

abbrev pub with_expectations : List (List ℕ) → List (List ℕ) → List (List ℕ)
with_expectations names lines = flat_map (expected_lines names) lines

-- the last lines of a runbook: a survey that is expected to find so many entries lost
abbrev pub survey_lines : ℕ → List (List ℕ)
survey_lines lost = (codes "# expect lost " ++ decimal lost) ∷ codes "survey" ∷ []

-- the lines of a plan's runbook
abbrev pub runbook_lines : List (List ℕ) → List (List ℕ) → ℕ → List (List ℕ)
runbook_lines names lines lost = with_expectations names lines ++ survey_lines lost
