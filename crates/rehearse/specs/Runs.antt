-- What a run prints, and how it ends, by what was asked to be printed of each line.
use Rattle.std.specs.Prelude.{◌≡◌, ◌⊎◌, Bool, List, ℕ, Option, Result, codes}
use Rattle.std.specs.Io.KnownBytes.{Appends, Keeps}
use Rattle.reh_play.specs.declared.faults.PlayFault.{PlayFault}
use Rattle.reh_play.specs.Players.{seated}
use Rattle.reh_script.specs.declared.faults.PipeFault.{PipeFault}
use Rattle.reh_script.specs.declared.openings.Opened.{Opened}
use Rattle.reh_script.specs.AsJson.{lines_as_json, EndsAsJson, RunsAsJson, WritesPart}
use Rattle.reh_script.specs.BookPlays.{Transcribes}
use Rattle.reh_script.specs.Changes.{answers_and_changes}
use Rattle.reh_script.specs.Pipes.{piped}
use Rattle.reh_script.specs.Printed.{EndsPrinting, RunsPrinting, PrintsInTime}
use Rattle.reh_script.specs.Runs.{Runs, RunsOut}
use Rattle.reh_words.specs.declared.tasks.Prints.{Prints}
use Rattle.reh_words.specs.declared.tasks.Prints.TheVariants.{Answers, Changes, Json}
use Rattle.reh_files.specs.declared.faults.RunFault.{RunFault}
use Rattle.reh_files.specs.declared.faults.RunFault.TheVariants as run_fault

-- A run of the picture and the script that two readers give, whose bytes to come were first_old and left_old and are
-- first_new and left_new. Untouched says that the script's reader is as it was.
abbrev pub RunsBy : Prints → Result (Unit {0}) PipeFault → Type 0 → Bool → Option (List ℕ) → Option (List ℕ) → Bool
    → Option (List ℕ) → Option (List ℕ) → Option (List ℕ) → Option (List ℕ) → Type 0
RunsBy Answers result untouched unread first_old first_new failed left_old left_new old new =
    Runs result untouched unread first_old first_new failed left_old left_new old new
RunsBy Changes result untouched unread first_old first_new failed left_old left_new old new =
    RunsPrinting answers_and_changes result untouched unread first_old first_new failed left_old left_new old new
RunsBy Json result untouched unread first_old first_new failed left_old left_new old new =
    RunsAsJson result untouched unread first_old first_new failed left_old left_new old new

-- After the run the other end can see what is printed of all lines that were complete when the script's reader was last read.
abbrev pub IsInTime : Prints → Bool → Option (List ℕ) → Option (List ℕ) → Option (List ℕ) → Option (List ℕ)
    → Option (List ℕ) → Option (List ℕ) → Type 0
IsInTime Answers unread first_old first_new left_old left_before old shown =
    RunsOut unread first_old first_new left_old left_before old shown
IsInTime Changes unread first_old first_new left_old left_before old shown =
    PrintsInTime answers_and_changes unread first_old first_new left_old left_before old shown
IsInTime Json unread first_old first_new left_old left_before old shown =
    PrintsInTime lines_as_json unread first_old first_new left_old left_before old shown

-- A play of the script that a reader gives, from what was opened to what it is now.
abbrev pub PlaysBy : Prints → Opened → Opened → Result (Unit {0}) PipeFault → Bool → Option (List ℕ)
    → Option (List ℕ) → Option (List ℕ) → Option (List ℕ) → Type 0
PlaysBy Answers was now result failed left_old left_new old new =
    (end : Result (Unit {0}) PlayFault) × (result ≡ piped end)
    × Transcribes was.names was.seat.number end failed left_old left_new was.book.book now.book.book old new
PlaysBy Changes was now result failed left_old left_new old new =
    EndsPrinting answers_and_changes was (seated now.book now.seat) result failed left_old left_new old new
PlaysBy Json was now result failed left_old left_new old new =
    EndsAsJson was (seated now.book now.seat) result failed left_old left_new old new

-- the one object of a stream of JSON whose run can't begin, by its fault
abbrev pub unbegun_text : RunFault → List ℕ
unbegun_text (run_fault.Picture fault) = codes "{\"end\":\"picture refused\"}\n"
unbegun_text (run_fault.Refused path located) = codes "{\"end\":\"picture refused\"}\n"
unbegun_text run_fault.NoMemory = codes "{\"end\":\"no memory\"}\n"
unbegun_text other = codes "{\"end\":\"read fault\"}\n"

-- A run that can't begin ends with its fault, and prints nothing; or this object, where it prints JSON. Where the object
-- isn't written whole, it ends with a write fault.
abbrev pub TellsUnbegun : Prints → RunFault → RunFault → Option (List ℕ) → Option (List ℕ) → Type 0
TellsUnbegun Answers fault result old new = (result ≡ fault) × Keeps old new
TellsUnbegun Changes fault result old new = (result ≡ fault) × Keeps old new
TellsUnbegun Json fault result old new =
    ((result ≡ fault) × Appends old new (unbegun_text fault))
    ⊎ ((result ≡ run_fault.WriteFault) × WritesPart old new (unbegun_text fault))
