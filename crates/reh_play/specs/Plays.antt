-- How a play goes at any counter: which lines were answered, which were taken, and why it ended.
use Rattle.std.specs.Prelude.{◌≡◌, ℕ, ◌+◌, ◌<◌, ◌⊎◌, Bool, true, false, if◌then◌else◌}
use Rattle.std.specs.Prelude.{List, ◌∷◌, ◌++◌, length, Option, None, Some, Result, Ok, Err}
use Rattle.std.specs.Io.KnownBytes.{Appends, Consumes, Keeps}
use Rattle.reh_commands.specs.Answers.{asked}
use Rattle.reh_lines.specs.Lines.{is_script, lines_of, ended, answered_lines}
use Rattle.reh_play.specs.Players.{Setting, Player, Takes, TakesAll, Begins, Ends, AsksForSurvey}
use Rattle.reh_lines.specs.Readings.{Gives}
use Rattle.reh_lines.specs.Streams.{Reaches}
use Rattle.reh_play.specs.declared.faults.PlayFault.{PlayFault}
use Rattle.reh_play.specs.declared.faults.PlayFault.TheVariants.{ReadFault, TooLong, WriteFault, NoMemory, NoThread}

-- why no more lines are answered: the script is too long, or a read failed after it
abbrev pub stop_of : Bool → List ℕ → Option PlayFault
stop_of failed script = if is_script script then (if failed then Some ReadFault else None) else Some TooLong

-- Plays of lines from x to z, where the hand was given back; what is written goes from old to new.

-- Every line was taken and answered.
pub record AnswersAll {S : Type 0} (place : Setting S) (lines : List (List ℕ)) (x z : Player S)
    (old new : Option (List ℕ)) : Type 0 where
  pub text : List ℕ
  pub y : Player S
  pub taken : TakesAll place x 1 lines text y
  pub ends : Ends place y z
  pub written : Appends old new text

-- A write failed: the last line that was taken is the one whose answer was going out, and some of this answer is lost.
pub record StopsWriting {S : Type 0} (place : Setting S) (lines : List (List ℕ)) (x z : Player S)
    (old new : Option (List ℕ)) : Type 0 where
  pub done : List (List ℕ)
  pub line : List ℕ
  pub rest : List (List ℕ)
  pub text : List ℕ
  pub part : List ℕ
  pub lost : List ℕ
  pub mid : Player S
  pub y : Player S
  pub split : lines ≡ done ++ line ∷ rest
  pub before : TakesAll place x 1 done text mid
  pub taken : Takes place mid (length done + 1) (asked place.names line) (part ++ lost) y
  pub is_lost : 0 < length lost
  pub ends : Ends place y z
  pub written : Appends old new (text ++ part)

-- There was no memory for a line, or no thread for a survey: the lines before it were taken and answered, and of its
-- own answer nothing was written.
pub record StopsWanting {S : Type 0} (place : Setting S) (lines : List (List ℕ)) (x z : Player S)
    (old new : Option (List ℕ)) : Type 0 where
  pub done : List (List ℕ)
  pub line : List ℕ
  pub rest : List (List ℕ)
  pub text : List ℕ
  pub mid : Player S
  pub y : Player S
  pub split : lines ≡ done ++ line ∷ rest
  pub before : TakesAll place x 1 done text mid
  pub begun : Begins place.go place.scene mid (asked place.names line) y
  pub ends : Ends place y z
  pub written : Appends old new text

-- How a play of lines ends that has to stop after them for a fault, if there is one.
abbrev pub IsPlayed : {S : Type 0} → Setting S → List (List ℕ) → Option PlayFault → Result (Unit {0}) PlayFault
    → Player S → Player S → Option (List ℕ) → Option (List ℕ) → Type 0
IsPlayed {S} place lines stop (Ok done) x z old new = (stop ≡ None) × AnswersAll place lines x z old new
IsPlayed {S} place lines stop (Err ReadFault) x z old new = (stop ≡ Some ReadFault) × AnswersAll place lines x z old new
IsPlayed {S} place lines stop (Err TooLong) x z old new = (stop ≡ Some TooLong) × AnswersAll place lines x z old new
IsPlayed {S} place lines stop (Err WriteFault) x z old new = StopsWriting place lines x z old new
IsPlayed {S} place lines stop (Err NoMemory) x z old new = StopsWanting place lines x z old new
IsPlayed {S} place lines stop (Err NoThread) x z old new =
    (stops : StopsWanting place lines x z old new) × AsksForSurvey (asked place.names stops.line)

-- The first lines were taken and answered, and no other was begun.
pub record StopsBetween {S : Type 0} (place : Setting S) (lines : List (List ℕ)) (x z : Player S)
    (old new : Option (List ℕ)) : Type 0 where
  pub done : List (List ℕ)
  pub rest : List (List ℕ)
  pub text : List ℕ
  pub y : Player S
  pub split : lines ≡ done ++ rest
  pub taken : TakesAll place x 1 done text y
  pub ends : Ends place y z
  pub written : Appends old new text

-- A play broke off between two lines, and no read had failed: there was no memory for the hand or to read on, or a write or
-- a flush failed.
abbrev pub BreaksOff : {S : Type 0} → Setting S → Bool → List (List ℕ) → Result (Unit {0}) PlayFault → Player S
    → Player S → Option (List ℕ) → Option (List ℕ) → Type 0
BreaksOff {S} place failed lines result x z old new =
    ((result ≡ Err NoMemory) ⊎ (result ≡ Err WriteFault)) × (failed ≡ false) × StopsBetween place lines x z old new

-- A play of the text that a reader gives, whose bytes to come were left_old and are left_new.
pub record Plays {S : Type 0} (place : Setting S) (result : Result (Unit {0}) PlayFault) (failed : Bool)
    (left_old left_new : Option (List ℕ)) (x z : Player S) (old new : Option (List ℕ)) : Type 0 where
  pub text : List ℕ
  pub given : Gives left_old left_new failed text
  pub played : IsPlayed place (answered_lines failed text) (stop_of failed text) result x z old new
      ⊎ BreaksOff place failed (answered_lines failed text) result x z old new

-- After the play the other end can see the answers to all lines that were complete when a reader was last read. What the
-- reader was to give was left_old before the play and left_before before that read; old was written before the play, and
-- shown can be seen after it. As each read may be the last one, an answer never waits for a read.
pub record GoesOut {S : Type 0} (place : Setting S) (left_old left_before : Option (List ℕ)) (x : Player S)
    (old shown : Option (List ℕ)) : Type 0 where
  pub earlier : List ℕ
  pub text : List ℕ
  pub y : Player S
  pub given : Consumes left_old left_before earlier
  pub taken : TakesAll place x 1 (lines_of (ended earlier)) text y
  pub reaches : Reaches old shown text

-- There was no memory for the hand: nothing was taken and nothing written.
abbrev pub LacksHand : {S : Type 0} → Result (Unit {0}) PlayFault → Player S → Player S → Option (List ℕ)
    → Option (List ℕ) → Type 0
LacksHand {S} result x z old new = (result ≡ Err NoMemory) × (z ≡ x) × Keeps old new

-- whether a play ended since a write failed
abbrev pub is_write_fault : Result (Unit {0}) PlayFault → Bool
is_write_fault (Ok done) = false
is_write_fault (Err ReadFault) = false
is_write_fault (Err TooLong) = false
is_write_fault (Err WriteFault) = true
is_write_fault (Err NoMemory) = false
is_write_fault (Err NoThread) = false
