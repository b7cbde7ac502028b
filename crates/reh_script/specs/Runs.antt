-- How a run of a picture and a script ends, each of its own reader.
use Rattle.std.specs.Prelude.{◌≡◌, ℕ, Bool, List, Option, Result, Ok, Err}
use Rattle.std.specs.Io.KnownBytes.{Keeps}
use Rattle.reh_model.specs.Book.{Book}
use Rattle.reh_picture.specs.Pictures.{picture_of}
use Rattle.reh_script.specs.BookPlays.{Transcribes}
use Rattle.reh_script.specs.Openings.{OpensText}
use Rattle.reh_script.specs.Pipes.{piped, GoesOutBehind}
use Rattle.reh_lines.specs.Readings.{Gives}
use Rattle.reh_play.specs.declared.faults.PlayFault.{PlayFault}
use Rattle.reh_script.specs.declared.faults.PipeFault.{PipeFault}
use Rattle.reh_script.specs.declared.openings.Opened.{Opened}

-- The run's end is that of a play, by the seat that was opened, of the script that a reader gives.
pub record EndsAsTranscribed (rehearsal : Opened) (result : Result (Unit {0}) PipeFault) (failed : Bool)
    (left_old left_new old new : Option (List ℕ)) : Type 0 where
  pub end : Result (Unit {0}) PlayFault
  pub book : Book
  pub same : result ≡ piped end
  pub transcribed :
      Transcribes rehearsal.names rehearsal.seat.number end failed left_old left_new rehearsal.book.book book old new

-- How a run ends, given what was opened of its picture: where nothing was, it has that fault, the script's reader is
-- untouched, and nothing is written.
abbrev pub IsRun : Type 0 → Result Opened PipeFault → Result (Unit {0}) PipeFault → Bool → Option (List ℕ)
    → Option (List ℕ) → Option (List ℕ) → Option (List ℕ) → Type 0
IsRun untouched (Err fault) result failed left_old left_new old new = (result ≡ Err fault) × untouched × Keeps old new
IsRun untouched (Ok rehearsal) result failed left_old left_new old new =
    EndsAsTranscribed rehearsal result failed left_old left_new old new

-- A run of the picture and the script that two readers give, whose bytes to come were first_old and left_old and are
-- first_new and left_new. Untouched says that the script's reader is as it was.
pub record Runs (result : Result (Unit {0}) PipeFault) (untouched : Type 0) (unread : Bool)
    (first_old first_new : Option (List ℕ)) (failed : Bool) (left_old left_new old new : Option (List ℕ)) : Type 0 where
  pub opened : Result Opened PipeFault
  pub opens : OpensText unread first_old first_new opened
  pub ends : IsRun untouched opened result failed left_old left_new old new

-- When the script's reader was last read, the picture had been given and accepted. After the run the other end can see the
-- answers to all lines of the script that were complete at that read.
pub record RunsOut (unread : Bool) (first_old first_new left_old left_before old shown : Option (List ℕ)) : Type 0 where
  pub picture : List ℕ
  pub given : Gives first_old first_new unread picture
  pub out : GoesOutBehind (picture_of picture) left_old left_before old shown
