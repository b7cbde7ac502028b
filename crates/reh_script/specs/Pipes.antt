-- How a pipe goes: what its input is, and what becomes of it.
use Rattle.std.specs.Prelude.{◌≡◌, ℕ, ◌⊎◌, Bool, true, false, List, Option, Result, Ok, Err, ⊤, if◌then◌else◌}
use Rattle.std.specs.Io.KnownBytes.{Consumes, Keeps}
use Rattle.reh_model.specs.Cluster.{Cluster}
use Rattle.reh_model.specs.Session.{opened_session}
use Rattle.reh_model.specs.Book.{Book, new_book}
use Rattle.reh_fields.specs.declared.faults.PictureFault.{PictureFault}
use Rattle.reh_picture.specs.Pictures.{picture_of}
use Rattle.reh_lines.specs.Lines.{cut_of, is_told, answered_lines, lines_of, ended}
use Rattle.reh_lines.specs.Readings.{Gives}
use Rattle.reh_play.specs.Plays.{stop_of, is_write_fault}
use Rattle.reh_script.specs.BookPlays.{IsTranscribed, LeavesOff, Transcribes}
use Rattle.reh_lines.specs.Streams.{Reaches}
use Rattle.reh_transcript.specs.Transcript.{starting, transcript}
use Rattle.reh_play.specs.declared.faults.PlayFault.{PlayFault}
use Rattle.reh_play.specs.declared.faults.PlayFault.TheVariants.{ReadFault, NoMemory}
use Rattle.reh_script.specs.declared.faults.PipeFault.{PipeFault}
use Rattle.reh_script.specs.declared.faults.PipeFault.TheVariants.{Picture, Play}

-- the state that a book opens on, the lines that are answered, and the fault after them, if there is one
pub record Rehearsal : Type 0 where
  pub state : Cluster
  pub lines : List (List ℕ)
  pub stop : Option PlayFault

abbrev pub rehearsal_by : Bool → Result Cluster PictureFault → List ℕ → Result Rehearsal PipeFault
rehearsal_by failed (Ok state) script =
    Ok (record { state = state; lines = answered_lines failed script; stop = stop_of failed script })
rehearsal_by failed (Err fault) script = Err (Picture fault)

-- what an input is, after which a read failed or none did: a rehearsal, or the fault that comes before any line. A
-- picture is judged as soon as it is told.
abbrev pub rehearsal_of : Bool → List ℕ → Result Rehearsal PipeFault
rehearsal_of failed input =
    if is_told failed input then rehearsal_by failed (picture_of (cut_of input).picture) (cut_of input).script
    else Err (Play ReadFault)

-- a play's end as the pipe's
abbrev pub piped : Result (Unit {0}) PlayFault → Result (Unit {0}) PipeFault
piped (Ok x) = Ok x
piped (Err fault) = Err (Play fault)

-- The pipe's end is that of a play of the rehearsal by the one seat of a new book.
pub record EndsAsPlayed (rehearsal : Rehearsal) (failed : Bool) (result : Result (Unit {0}) PipeFault)
    (old new : Option (List ℕ)) : Type 0 where
  pub end : Result (Unit {0}) PlayFault
  pub book : Book
  pub same : result ≡ piped end
  pub played : IsTranscribed rehearsal.state.names 0 rehearsal.lines rehearsal.stop end
      (starting (new_book (opened_session rehearsal.state))) book old new
      ⊎ LeavesOff rehearsal.state.names 0 failed rehearsal.lines end
      (starting (new_book (opened_session rehearsal.state))) book old new

-- There was no memory for the picture, the book or the hand, and nothing was written.
abbrev pub LacksState : Result (Unit {0}) PipeFault → Option (List ℕ) → Option (List ℕ) → Type 0
LacksState result old new = (result ≡ Err (Play NoMemory)) × Keeps old new

-- How a pipe ends, given whether a read failed and what its input is.
abbrev pub IsPiped : Bool → Result Rehearsal PipeFault → Result (Unit {0}) PipeFault → Option (List ℕ)
    → Option (List ℕ) → Type 0
IsPiped failed (Ok rehearsal) result old new = EndsAsPlayed rehearsal failed result old new ⊎ LacksState result old new
IsPiped failed (Err (Picture fault)) result old new =
    ((result ≡ Err (Picture fault)) × Keeps old new) ⊎ LacksState result old new
IsPiped failed (Err (Play fault)) result old new = (result ≡ Err (Play fault)) × Keeps old new

-- A pipe of the input that a reader gives, whose bytes to come were left_old and are left_new.
pub record Pipes (result : Result (Unit {0}) PipeFault) (failed : Bool)
    (left_old left_new : Option (List ℕ)) (old new : Option (List ℕ)) : Type 0 where
  pub input : List ℕ
  pub given : Gives left_old left_new failed input
  pub ends : IsPiped failed (rehearsal_of failed input) result old new

-- These lines of a rehearsal were answered, and the other end can see it. Where the picture was told and is refused nothing
-- more is read.
abbrev pub IsOut : Result Rehearsal PipeFault → List (List ℕ) → Option (List ℕ) → Option (List ℕ) → Type 0
IsOut (Ok r) lines old shown =
    Reaches old shown (transcript r.state.names 0 (starting (new_book (opened_session r.state))) 1 lines)
IsOut (Err (Picture fault)) lines old shown = ⊥
IsOut (Err (Play fault)) lines old shown = ⊤

-- After the play the other end can see the answers to all lines of the script that were complete when the reader was last
-- read. So an answer never waits for a read, nor does the refusal of a picture.
pub record AnswersGoOut (left_old left_before old shown : Option (List ℕ)) : Type 0 where
  pub earlier : List ℕ
  pub given : Consumes left_old left_before earlier
  pub out : IsOut (rehearsal_of true earlier) (lines_of (ended (cut_of earlier).script)) old shown

-- The play of a script after a picture of this state, of which left_old was to come.
pub record PlayedBehind (state : Cluster) (result : Result (Unit {0}) PipeFault) (failed : Bool)
    (left_old left_new old new : Option (List ℕ)) : Type 0 where
  pub end : Result (Unit {0}) PlayFault
  pub book : Book
  pub same : result ≡ piped end
  pub played : Transcribes state.names 0 end failed left_old left_new (new_book (opened_session state)) book old new

-- Nothing was read of the script, and nothing written.
abbrev pub IsUnplayed : PipeFault → Result (Unit {0}) PipeFault → Bool → Option (List ℕ) → Option (List ℕ) → Type 0
IsUnplayed fault result failed old new = (result ≡ Err fault) × (failed ≡ false) × Keeps old new

-- What becomes of a picture that was read so, and the script after it.
abbrev pub PlaysBehind : Result Cluster PictureFault → Result (Unit {0}) PipeFault → Bool → Option (List ℕ)
    → Option (List ℕ) → Option (List ℕ) → Option (List ℕ) → Type 0
PlaysBehind (Ok state) result failed left_old left_new old new =
    PlayedBehind state result failed left_old left_new old new ⊎ IsUnplayed (Play NoMemory) result failed old new
PlaysBehind (Err fault) result failed left_old left_new old new =
    IsUnplayed (Picture fault) result failed old new ⊎ IsUnplayed (Play NoMemory) result failed old new

-- The answers to the lines of the script that were complete when the reader was last read.
pub record GoesOutFrom (state : Cluster) (left_old left_before old shown : Option (List ℕ)) : Type 0 where
  pub earlier : List ℕ
  pub given : Consumes left_old left_before earlier
  pub reaches :
      Reaches old shown (transcript state.names 0 (starting (new_book (opened_session state))) 1 (lines_of (ended earlier)))

abbrev pub GoesOutBehind : Result Cluster PictureFault → Option (List ℕ) → Option (List ℕ) → Option (List ℕ)
    → Option (List ℕ) → Type 0
GoesOutBehind (Ok state) left_old left_before old shown = GoesOutFrom state left_old left_before old shown
GoesOutBehind (Err fault) left_old left_before old shown = ⊥

-- whether a pipe ended since a write failed
abbrev pub loses_output : Result (Unit {0}) PipeFault → Bool
loses_output (Ok x) = is_write_fault (Ok x)
loses_output (Err (Play fault)) = is_write_fault (Err fault)
loses_output (Err (Picture fault)) = false
