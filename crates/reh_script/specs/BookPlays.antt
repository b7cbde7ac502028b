-- How a play goes at a book with one seat: what it printed is the transcript, and it leaves the book where that does.
use Rattle.std.specs.Prelude.{◌≡◌, ℕ, ◌+◌, ◌<◌, ◌⊎◌, Bool, false}
use Rattle.std.specs.Prelude.{List, ◌∷◌, ◌++◌, length, Option, None, Some, IsSome, Result, Ok, Err}
use Rattle.std.specs.Io.KnownBytes.{Appends}
use Rattle.reh_types.specs.declared.calls.Call.{Call}
use Rattle.reh_model.specs.Book as model
use Rattle.reh_model.specs.Book.{Book, answer_to}
use Rattle.reh_model.specs.Session.{state_of}
use Rattle.reh_desk.specs.Kept.{Kept, Called}
use Rattle.reh_commands.specs.declared.commands.Command.{Command}
use Rattle.reh_commands.specs.declared.commands.LineFault.{LineFault}
use Rattle.reh_commands.specs.Answers.{asked}
use Rattle.reh_transcript.specs.Hand.{call_of}
use Rattle.reh_lines.specs.Lines.{answered_lines}
use Rattle.reh_play.specs.Plays.{stop_of}
use Rattle.reh_play.specs.Players.{Setting, setting, AsksForSurvey}
use Rattle.reh_lines.specs.Readings.{Gives}
use Rattle.reh_transcript.specs.Transcript.{BookPlayer, starting, transcript, line_answer, after_line, after_lines, end_of}
use Rattle.reh_play.specs.declared.faults.PlayFault.{PlayFault}
use Rattle.reh_play.specs.declared.faults.PlayFault.TheVariants.{ReadFault, TooLong, WriteFault, NoMemory, NoThread}

-- Every line was taken and answered.
pub record TranscribesAll (names : List (List ℕ)) (seat : ℕ) (lines : List (List ℕ)) (p : BookPlayer) (b : Book)
    (old new : Option (List ℕ)) : Type 0 where
  pub taken : b ≡ end_of seat (after_lines names seat p lines)
  pub written : Appends old new (transcript names seat p 1 lines)

-- A write failed: the last line that was taken is the one whose answer was going out, and some of this answer is lost.
pub record TranscribesPart (names : List (List ℕ)) (seat : ℕ) (lines : List (List ℕ)) (p : BookPlayer) (b : Book)
    (old new : Option (List ℕ)) : Type 0 where
  pub done : List (List ℕ)
  pub line : List ℕ
  pub rest : List (List ℕ)
  pub part : List ℕ
  pub lost : List ℕ
  pub split : lines ≡ done ++ line ∷ rest
  pub answer : part ++ lost ≡ line_answer names seat (after_lines names seat p done) (length done + 1) line
  pub is_lost : 0 < length lost
  pub taken : b ≡ end_of seat (after_line names seat (after_lines names seat p done) line)
  pub written : Appends old new (transcript names seat p 1 done ++ part)

-- The command makes this call, for which there may be no memory.
abbrev pub CallMayWant : ℕ → BookPlayer → Option Call → Type 0
CallMayWant seat p None = ⊥
CallMayWant seat p (Some call) = model.MayWantMemory call (answer_to p.book seat call)

-- The line asks for such a command.
abbrev pub MayWantMemory : ℕ → BookPlayer → Option (Result Command LineFault) → Type 0
MayWantMemory seat p None = ⊥
MayWantMemory seat p (Some (Ok command)) = CallMayWant seat p (call_of command p.hand)
MayWantMemory seat p (Some (Err fault)) = ⊥

-- A line that has an answer was not answered: it was taken or, where there may be no memory for its call, was not.
abbrev pub LacksAnswer : List (List ℕ) → ℕ → BookPlayer → List ℕ → Book → Type 0
LacksAnswer names seat p line b =
    IsSome (asked names line)
    × ((b ≡ end_of seat (after_line names seat p line))
    ⊎ ((b ≡ end_of seat p) × MayWantMemory seat p (asked names line)))

-- There was no memory for a line, or no thread for a survey: the lines before it were taken and answered, and of its
-- own answer nothing was written.
pub record TranscribesUntil (names : List (List ℕ)) (seat : ℕ) (lines : List (List ℕ)) (p : BookPlayer) (b : Book)
    (old new : Option (List ℕ)) : Type 0 where
  pub done : List (List ℕ)
  pub line : List ℕ
  pub rest : List (List ℕ)
  pub split : lines ≡ done ++ line ∷ rest
  pub lacks : LacksAnswer names seat (after_lines names seat p done) line b
  pub written : Appends old new (transcript names seat p 1 done)

-- How a play of lines ends that has to stop after them for a fault, if there is one: it leaves the book b.
abbrev pub IsTranscribed : List (List ℕ) → ℕ → List (List ℕ) → Option PlayFault → Result (Unit {0}) PlayFault
    → BookPlayer → Book → Option (List ℕ) → Option (List ℕ) → Type 0
IsTranscribed names seat lines stop (Ok done) p b old new =
    (stop ≡ None) × TranscribesAll names seat lines p b old new
IsTranscribed names seat lines stop (Err ReadFault) p b old new =
    (stop ≡ Some ReadFault) × TranscribesAll names seat lines p b old new
IsTranscribed names seat lines stop (Err TooLong) p b old new =
    (stop ≡ Some TooLong) × TranscribesAll names seat lines p b old new
IsTranscribed names seat lines stop (Err WriteFault) p b old new = TranscribesPart names seat lines p b old new
IsTranscribed names seat lines stop (Err NoMemory) p b old new = TranscribesUntil names seat lines p b old new
IsTranscribed names seat lines stop (Err NoThread) p b old new =
    (until : TranscribesUntil names seat lines p b old new) × AsksForSurvey (asked names until.line)

-- The first lines were taken and answered, and no other was begun.
pub record TranscribesBetween (names : List (List ℕ)) (seat : ℕ) (lines : List (List ℕ)) (p : BookPlayer) (b : Book)
    (old new : Option (List ℕ)) : Type 0 where
  pub done : List (List ℕ)
  pub rest : List (List ℕ)
  pub split : lines ≡ done ++ rest
  pub taken : b ≡ end_of seat (after_lines names seat p done)
  pub written : Appends old new (transcript names seat p 1 done)

-- A play broke off between two lines, and no read had failed: there was no memory for the hand or to read on, or a write or
-- a flush failed.
abbrev pub LeavesOff : List (List ℕ) → ℕ → Bool → List (List ℕ) → Result (Unit {0}) PlayFault → BookPlayer → Book
    → Option (List ℕ) → Option (List ℕ) → Type 0
LeavesOff names seat failed lines result p b old new =
    ((result ≡ Err NoMemory) ⊎ (result ≡ Err WriteFault)) × (failed ≡ false)
    × TranscribesBetween names seat lines p b old new

-- A play of the text that a reader gives, whose bytes to come were left_old and are left_new: the book goes from b
-- to c.
pub record Transcribes (names : List (List ℕ)) (seat : ℕ) (result : Result (Unit {0}) PlayFault) (failed : Bool)
    (left_old left_new : Option (List ℕ)) (b c : Book) (old new : Option (List ℕ)) : Type 0 where
  pub text : List ℕ
  pub given : Gives left_old left_new failed text
  pub played :
      IsTranscribed names seat (answered_lines failed text) (stop_of failed text) result (starting b) c old new
      ⊎ LeavesOff names seat failed (answered_lines failed text) result (starting b) c old new

-- at a book, which shows its state
abbrev pub at_book : List (List ℕ) → Setting Kept
at_book names = setting Called (λ k. Some (state_of k.book.session)) names
