-- How a player answers a line, and what it leaves where a line is not answered.
use Rattle.std.specs.Prelude.{◌≡◌, ⊤, ℕ, Bool, List, [], ◌∷◌, ◌++◌, length, Option, None, Some, Result, Err}
use Rattle.std.specs.Io.KnownBytes.{Appends}
use Rattle.reh_model.specs.Cluster.{Cluster}
use Rattle.reh_desk.specs.Numbered.{Numbered}
use Rattle.reh_desk.specs.Seats.{SeatView}
use Rattle.reh_crew.specs.declared.surveyors.SurveyFault.{SurveyFault}
use Rattle.reh_crew.specs.declared.surveyors.SurveyFault.TheVariants as survey_fault
use Rattle.reh_play.specs.declared.answers.LineAnswer.{LineAnswer}
use Rattle.reh_commands.specs.declared.commands.Command.{Command}
use Rattle.reh_commands.specs.declared.commands.LineFault.{LineFault}
use Rattle.reh_play.specs.declared.faults.PlayFault.{PlayFault}
use Rattle.reh_commands.specs.Answers.{asked}
use Rattle.reh_play.specs.Players.{Going, Player, Printing, Setting, IsAnswered, TakesAll, Begins, Ends, AsksForSurvey}
use Rattle.reh_play.specs.Plays.{IsPlayed, Plays}

abbrev pub player : {S : Type 0} → S → SeatView → List Numbered → Player S
player {S} counter seat hand = record { counter = counter; seat = seat; hand = hand }

-- a ticket that could not be scanned stands for the finding that it would have given
abbrev pub held : Option Numbered → List Numbered
held None = []
held (Some ticket) = ticket ∷ []

-- a player with this ticket after its hand, if there is one
abbrev pub with_ticket : {S : Type 0} → S → SeatView → List Numbered → Option Numbered → Player S
with_ticket {S} counter seat hand ticket = player counter seat (hand ++ held ticket)

-- A line that asks for this was begun, and has no answer.
abbrev pub IsBegun : {S : Type 0} → Going S → (S → Option Cluster) → Player S → Result Command LineFault → Player S
    → Type 0
IsBegun {S} go scene x asked y = Begins go scene x (Some asked) y

-- What was added to a text is what may be printed of the line.
abbrev pub IsPrinted : (List ℕ → Type 0) → List ℕ → List ℕ → Type 0
IsPrinted prints old new = (text : List ℕ) × (new ≡ old ++ text) × prints text

-- Of the n-th line with this answer, which left the counter after, what is added may be printed, wherever it came from.
abbrev pub PrintsLine : {S : Type 0} → Going S → (S → Option Cluster) → Printing S → List (List ℕ) → S → ℕ → List ℕ
    → LineAnswer → List ℕ → List ℕ → Type 0
PrintsLine {S} go scene prints names after n line answer old new =
    (x y : Player S) (q : Result Command LineFault) → asked names line ≡ Some q → y.counter ≡ after
    → IsAnswered go scene x q answer y → IsPrinted (prints names x.counter n q answer after) old new

-- Only a survey wants a thread.
abbrev pub IsWanted : SurveyFault → Option (Result Command LineFault) → Type 0
IsWanted survey_fault.NoMemory asked = ⊤
IsWanted survey_fault.NoThread asked = AsksForSurvey asked

-- A play of lines came from x to y, where its hand is still to be given back.
abbrev pub LeadsTo : {S : Type 0} → Setting S → List (List ℕ) → Result (Unit {0}) PlayFault → Player S → Player S
    → Option (List ℕ) → Option (List ℕ) → Type 0
LeadsTo {S} place lines result x y old new =
    (z : Player S) → Ends place y z → IsPlayed place lines None result x z old new

-- Of all lines the first were taken and answered, so many, and these are left.
pub record IsAt {S : Type 0} (place : Setting S) (all left : List (List ℕ)) (number : ℕ) (x y : Player S)
    (old mid : Option (List ℕ)) : Type 0 where
  pub done : List (List ℕ)
  pub text : List ℕ
  pub split : all ≡ done ++ left
  pub count : number ≡ length done
  pub taken : TakesAll place x 1 done text y
  pub written : Appends old mid text

-- Of lines after so many others the first were taken and answered, and these are left, whatever stands before them and
-- follows.
abbrev pub GoesOn : {S : Type 0} → Setting S → ℕ → List (List ℕ) → ℕ → List (List ℕ) → Player S → Player S
    → Option (List ℕ) → Option (List ℕ) → Type 0
GoesOn {S} place before lines number left x y old new =
    (all rest : List (List ℕ)) (start : Player S) (first : Option (List ℕ))
    → IsAt place all (lines ++ rest) before start x first old → IsAt place all (left ++ rest) number start y first new

-- One of them was not answered, for this fault.
abbrev pub Halts : {S : Type 0} → Setting S → ℕ → List (List ℕ) → PlayFault → Player S → Player S → Option (List ℕ)
    → Option (List ℕ) → Type 0
Halts {S} place before lines fault x y old new =
    (all rest : List (List ℕ)) (start : Player S) (first : Option (List ℕ))
    → IsAt place all (lines ++ rest) before start x first old → LeadsTo place all (Err fault) start y first new

-- A play of the text that a reader gives came from x to y, where its hand is still to be given back.
abbrev pub PlaysTo : {S : Type 0} → Setting S → Result (Unit {0}) PlayFault → Bool → Option (List ℕ)
    → Option (List ℕ) → Player S → Player S → Option (List ℕ) → Option (List ℕ) → Type 0
PlaysTo {S} place result failed left_old left_new x y old new =
    (z : Player S) → Ends place y z → Plays place result failed left_old left_new x z old new
