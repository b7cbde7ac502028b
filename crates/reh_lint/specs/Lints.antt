-- What is found in a script. Its lines are judged as a play judges them: by what each asks for.
use Rattle.std.specs.Prelude.{ℕ, ◌+◌, Bool, true, false, List, [], ◌∷◌, ◌++◌, map, Option, None, Some, Result, Ok, Err, codes}
use Rattle.std.specs.Fmt.{decimal}
use Rattle.std.specs.Option.{option_map_or}
use Rattle.reh_model.specs.Cluster.{Cluster}
use Rattle.reh_commands.specs.declared.commands.Command.{Command}
use Rattle.reh_commands.specs.declared.commands.LineFault.{LineFault}
use Rattle.reh_commands.specs.declared.commands.LineFault.TheVariants.{TooLong, UnknownCommand, BadWords, UnknownName}
use Rattle.reh_commands.specs.Answers.{asked}
use Rattle.reh_commands.specs.Script.{form_of, verbs}
use Rattle.reh_commands.specs.Texts.{line_fault_text}
use Rattle.reh_lint.specs.Ledgers.{ids_of, missing_ledger}
use Rattle.reh_lint.specs.Unknown.{line_words, unknown_command, unknown_name}
use Rattle.reh_near.specs.Near.{Told, told_nearest, near_to, near_text, near_ids_text}

-- whether a line asks for a command, and whether it has a fault of the language
abbrev pub is_made : Option (Result Command LineFault) → Bool
is_made (Some (Ok command)) = true
is_made other = false

abbrev pub is_fault : Option (Result Command LineFault) → Bool
is_fault (Some (Err fault)) = true
is_fault other = false

abbrev pub is_command : List (List ℕ) → List ℕ → Bool
is_command names line = is_made (asked names line)

abbrev pub is_faulty : List (List ℕ) → List ℕ → Bool
is_faulty names line = is_fault (asked names line)

-- the names of all commands
abbrev pub verb_names : List (List ℕ)
verb_names = map (λ verb. (form_of verb).name) verbs

-- what is near a word, if there is one
abbrev pub near_word : List (List ℕ) → Option (List ℕ) → Told
near_word names word = option_map_or (near_to names) word (told_nearest [])

-- what is near the word of a line that names nothing: no command, or no bookie
abbrev pub near_it : List (List ℕ) → List ℕ → LineFault → Told
near_it names line UnknownCommand = near_word verb_names (unknown_command (line_words line))
near_it names line UnknownName = near_word names (unknown_name names (line_words line))
near_it names line TooLong = told_nearest []
near_it names line BadWords = told_nearest []

-- the line that is printed of the n-th line of a script, with this fault
abbrev pub finding : List ℕ → List (List ℕ) → ℕ → List ℕ → LineFault → List ℕ
finding path names n line fault =
    path
    ++ (codes ":"
    ++ (decimal n
    ++ (codes ": "
    ++ (line_fault_text fault
    ++ (near_text (near_it names line fault) ++ codes "\n")))))

-- or of one that names a ledger which isn't there, with what is said of near ids
abbrev pub absent_text : List ℕ → ℕ → ℕ → List ℕ → List ℕ
absent_text path n l near =
    path
    ++ (codes ":"
    ++ (decimal n ++ (codes ": the picture has no ledger " ++ (decimal l ++ (near ++ codes "\n")))))

abbrev pub missing_text : List ℕ → ℕ → List ℕ → ℕ → List ℕ
missing_text path n ids l = absent_text path n l (near_ids_text ids l)

-- nothing, where a line has no answer, or asks for a command whose ledger there is, or that names none
abbrev pub finding_of : List ℕ → Cluster → ℕ → List ℕ → Option (Result Command LineFault) → List ℕ
finding_of path s n line (Some (Err fault)) = finding path s.names n line fault
finding_of path s n line (Some (Ok command)) =
    option_map_or (missing_text path n (ids_of s)) (missing_ledger s command) []
finding_of path s n line None = []

-- of all lines, of which the first is the n-th
abbrev pub findings : List ℕ → Cluster → ℕ → List (List ℕ) → List ℕ
findings path s n [] = []
findings path s n (line ∷ lines) =
    finding_of path s n line (asked s.names line) ++ findings path s (n + 1) lines
