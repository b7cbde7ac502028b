-- What is found in a script, as a JSON value.
use Rattle.std.specs.Prelude.{ℕ, ◌+◌, List, [], ◌∷◌, ◌++◌, length, map, Option, None, Some, Result, Ok, Err, codes}
use Rattle.std.specs.List.{filter}
use Rattle.std.specs.Option.{option_map_or}
use Rattle.json.specs.Json.{Json, null, object, string, no_members, member}
use Rattle.reh_model.specs.Cluster.{Cluster}
use Rattle.reh_commands.specs.declared.commands.Command.{Command}
use Rattle.reh_commands.specs.declared.commands.LineFault.{LineFault}
use Rattle.reh_commands.specs.Answers.{asked}
use Rattle.reh_commands.specs.Texts.{line_fault_text}
use Rattle.reh_near.specs.Near.{Told, told_full, told_nearest, nearest_ids}
use Rattle.reh_answer.specs.Objects.{list_json, number_json}
use Rattle.reh_lint.specs.Ledgers.{ids_of, missing_ledger}
use Rattle.reh_lint.specs.Lints.{is_command, is_faulty, near_it}

-- What is near a word

-- the one name that begins with it
abbrev pub full_json : Told → Json
full_json (told_full name) = string name
full_json (told_nearest names) = null

-- else the nearest ones
abbrev pub nearest_of : Told → List (List ℕ)
nearest_of (told_full name) = []
nearest_of (told_nearest names) = names

abbrev pub near_json : Told → Json
near_json near = list_json (map string (nearest_of near))

-- A line

abbrev pub fault_with : ℕ → List ℕ → Told → Json
fault_with n fault near =
    object (
    member (codes "line") (number_json n)
    (member (codes "fault") (string fault)
    (member (codes "fullName") (full_json near) (member (codes "near") (near_json near) no_members)))
    )

-- the n-th line of a script, with this fault
abbrev pub fault_json : List (List ℕ) → ℕ → List ℕ → LineFault → Json
fault_json names n line fault = fault_with n (line_fault_text fault) (near_it names line fault)

-- one that names a ledger which isn't there, with the ids that are near
abbrev pub missing_with : ℕ → ℕ → List (List ℕ) → Json
missing_with n ledger near =
    object (
    member (codes "line") (number_json n)
    (member (codes "missingLedger") (number_json ledger) (member (codes "near") (list_json (map string near)) no_members))
    )

abbrev pub missing_json : Cluster → ℕ → ℕ → Json
missing_json s n ledger = missing_with n ledger (nearest_ids (ids_of s) ledger)

-- nothing, where a line has no answer, or asks for a command whose ledger there is, or that names none
abbrev pub found_in : Cluster → ℕ → List ℕ → Option (Result Command LineFault) → List Json
found_in s n line (Some (Err fault)) = fault_json s.names n line fault ∷ []
found_in s n line (Some (Ok command)) = option_map_or (λ ledger. missing_json s n ledger ∷ []) (missing_ledger s command) []
found_in s n line None = []

-- of all lines, of which the first is the n-th
abbrev pub found : Cluster → ℕ → List (List ℕ) → List Json
found s n [] = []
found s n (line ∷ lines) = found_in s n line (asked s.names line) ++ found s (n + 1) lines

-- All of it

abbrev pub script_with : List Json → ℕ → ℕ → Json
script_with lines commands faulty =
    object (
    member (codes "lines") (list_json lines)
    (member (codes "commands") (number_json commands) (member (codes "faulty") (number_json faulty) no_members))
    )

-- the lines that are named, how many lines ask for a command, and how many are faulty
abbrev pub script_json : Cluster → List (List ℕ) → Json
script_json s lines =
    script_with (found s 1 lines) (length (filter (is_command s.names) lines)) (length (filter (is_faulty s.names) lines))
