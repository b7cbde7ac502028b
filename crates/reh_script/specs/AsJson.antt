-- A run as a stream of JSON: an object a line, and a last one that says how the play ended.
use Rattle.std.specs.Prelude.{◌≡◌, ◌⊎◌, ℕ, ◌<◌, Bool, List, [], ◌++◌, length, Option, None, Some, Result, Ok, Err, codes}
use Rattle.std.specs.Io.KnownBytes.{Appends, Keeps}
use Rattle.reh_model.specs.Places.{Change, IsDelta}
use Rattle.reh_desk.specs.Kept.{Kept}
use Rattle.reh_commands.specs.declared.commands.Command.{Command}
use Rattle.reh_commands.specs.declared.commands.LineFault.{LineFault}
use Rattle.reh_commands.specs.Printed.{command_text}
use Rattle.reh_play.specs.declared.faults.PlayFault.TheVariants.{ReadFault, TooLong, WriteFault, NoMemory, NoThread}
use Rattle.reh_play.specs.Players.{Printing, Player}
use Rattle.reh_run_json.specs.Lines.{IsLineAdded, line_json, line_text}
use Rattle.reh_script.specs.declared.faults.PipeFault.{PipeFault}
use Rattle.reh_script.specs.declared.faults.PipeFault.TheVariants.{Picture, Play}
use Rattle.reh_script.specs.declared.openings.Opened.{Opened}
use Rattle.reh_script.specs.Changes.{state_in}
use Rattle.reh_script.specs.Printed.{EndsPrinting, RunsPrinting}

-- the line of the command that a line asks for, as a plan or an operator would write it
abbrev pub command_in : List (List ℕ) → Option (Result Command LineFault) → Option (List ℕ)
command_in names (Some (Ok command)) = command_text names command
command_in names asked = None

-- The object of a line: its command, its answer, and the record of what it changed. A reader of JSON reads it so.
abbrev pub lines_as_json : Printing Kept
lines_as_json names before n asked answer after text =
    (changes : List Change) × IsDelta (state_in after) (state_in before) changes
    × (text ≡ line_text (state_in after).names n (command_in names (Some asked)) (state_in after) answer changes)
    × IsLineAdded (line_json (state_in after).names n (command_in names (Some asked)) (state_in after) answer changes) [] text

-- the last object; after a failed write there is none
abbrev pub end_text : Result (Unit {0}) PipeFault → Option (List ℕ)
end_text (Ok done) = Some (codes "{\"end\":\"ok\"}\n")
end_text (Err (Picture fault)) = Some (codes "{\"end\":\"picture refused\"}\n")
end_text (Err (Play ReadFault)) = Some (codes "{\"end\":\"read fault\"}\n")
end_text (Err (Play TooLong)) = Some (codes "{\"end\":\"script too long\"}\n")
end_text (Err (Play WriteFault)) = None
end_text (Err (Play NoMemory)) = Some (codes "{\"end\":\"no memory\"}\n")
end_text (Err (Play NoThread)) = Some (codes "{\"end\":\"no thread\"}\n")

-- a first part was written
abbrev pub WritesPart : Option (List ℕ) → Option (List ℕ) → List ℕ → Type 0
WritesPart old new text = (part : List ℕ) × (lost : List ℕ) × (part ++ lost ≡ text) × Appends old new part

-- A text is written after the end of a play, where there is one: all of it, and the end stays; or a write failed.
abbrev pub IsTold : Option (List ℕ) → Result (Unit {0}) PipeFault → Result (Unit {0}) PipeFault → Option (List ℕ)
    → Option (List ℕ) → Type 0
IsTold None end result old new = (result ≡ end) × Keeps old new
IsTold (Some text) end result old new =
    ((result ≡ end) × Appends old new text) ⊎ ((result ≡ Err (Play WriteFault)) × WritesPart old new text)

-- A play of a book that was opened, and how it ended.
pub record EndsAsJson (rehearsal : Opened) (last : Player Kept) (result : Result (Unit {0}) PipeFault) (failed : Bool)
    (left_old left_new old new : Option (List ℕ)) : Type 0 where
  pub end : Result (Unit {0}) PipeFault
  pub lines : Option (List ℕ)
  pub plays : EndsPrinting lines_as_json rehearsal last end failed left_old left_new old lines
  pub told : IsTold (end_text end) end result lines new

-- A run, and how it ended, also where the picture is refused.
pub record RunsAsJson (result : Result (Unit {0}) PipeFault) (untouched : Type 0) (unread : Bool)
    (first_old first_new : Option (List ℕ)) (failed : Bool) (left_old left_new old new : Option (List ℕ)) : Type 0 where
  pub end : Result (Unit {0}) PipeFault
  pub lines : Option (List ℕ)
  pub runs : RunsPrinting lines_as_json end untouched unread first_old first_new failed left_old left_new old lines
  pub told : IsTold (end_text end) end result lines new
