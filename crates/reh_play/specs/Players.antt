-- What a player does at a counter, line by line: its seat, its hand, and what is printed.
use Rattle.std.specs.Prelude.{◌≡◌, ◌≢◌, ◌⊎◌, ℕ, ◌+◌, List, [], ◌∷◌, ◌++◌, map, Option, None, Some, Result, Ok, Err}
use Rattle.std.specs.Prelude.{codes}
use Rattle.reh_types.specs.declared.calls.Call.{Call}
use Rattle.reh_types.specs.declared.moves.Reply.{Reply}
use Rattle.reh_types.specs.declared.moves.Reply.TheVariants.{Discarded, Refused}
use Rattle.reh_types.specs.declared.refusals.Refusal.TheVariants.{NotOut, NoMemory, HandFull, HandEmpty}
use Rattle.reh_model.specs.Cluster.{Cluster}
use Rattle.reh_model.specs.Survey.{survey}
use Rattle.reh_desk.specs.Numbered.{Numbered}
use Rattle.reh_desk.specs.Seats.{SeatView, gained}
use Rattle.reh_commands.specs.declared.commands.Command.{Command}
use Rattle.reh_commands.specs.declared.commands.Command.TheVariants.{Make, Checkout, Spend, Discard, Report, Survey}
use Rattle.reh_commands.specs.declared.commands.LineFault.{LineFault}
use Rattle.reh_commands.specs.Answers.{asked, numbered, reply_answer, fault_answer, shown, report_answer}
use Rattle.reh_commands.specs.Texts.{survey_line_text, text_of}
use Rattle.reh_transcript.specs.Hand.{call_of, HandAfter, discard_of}
use Rattle.reh_play.specs.declared.answers.LineAnswer.{LineAnswer}
use Rattle.reh_play.specs.declared.answers.LineAnswer.TheVariants as line_answer

-- Answers

-- what is printed as an answer, where this state is shown, or none
abbrev pub answer_text : List (List ℕ) → Option Cluster → LineAnswer → List ℕ
answer_text names scene (line_answer.Said reply) = reply_answer names reply
answer_text names scene (line_answer.Faulty fault) = fault_answer fault
answer_text names scene line_answer.Report = shown scene report_answer
answer_text names scene (line_answer.Survey lines) = codes "survey\n" ++ text_of (map survey_line_text lines.items)
answer_text names scene line_answer.Hidden = codes "not in a drill\n"

-- the survey of the state that is shown, if one is
abbrev pub IsSurveyed : Option Cluster → LineAnswer → Type 0
IsSurveyed (Some s) (line_answer.Survey lines) = lines.items ≡ survey s
IsSurveyed None line_answer.Hidden = Unit {0}
IsSurveyed scene answer = ⊥

-- the player's own answer to a command that makes no call: what is shown, or that the hand is full or empty
abbrev pub IsOwn : Option Cluster → Command → LineAnswer → Type 0
IsOwn scene (Make move) answer = ⊥
IsOwn scene (Checkout aim) answer = answer ≡ line_answer.Said (Refused HandFull)
IsOwn scene Spend answer = answer ≡ line_answer.Said (Refused HandEmpty)
IsOwn scene Discard answer = answer ≡ line_answer.Said (Refused HandEmpty)
IsOwn scene Report answer = answer ≡ line_answer.Report
IsOwn scene Survey answer = IsSurveyed scene answer

-- Counters

-- what a call of a seat may leave at a counter
abbrev pub Going : Type 0 → Type 1
Going S = S → ℕ → Call → Reply → S → Type 0

-- what may be printed of the n-th line, with the bookies of these names: it asks for this, has this answer, and led from
-- one counter to another
abbrev pub Printing : Type 0 → Type 1
Printing S = List (List ℕ) → S → ℕ → Result Command LineFault → LineAnswer → S → List ℕ → Type 0

-- its answer after its number, and no more
abbrev pub answers_alone : {S : Type 0} → (S → Option Cluster) → Printing S
answers_alone {S} scene names before n asked answer after text =
    text ≡ numbered n (answer_text names (scene after) answer)

-- Where a script is played: how its counter goes, the state that is shown there, if any, what is printed of a line, and
-- the names of the bookies.
pub record Setting (S : Type 0) : Type 1 where
  pub go : Going S
  pub scene : S → Option Cluster
  pub prints : Printing S
  pub names : List (List ℕ)

abbrev pub setting_by : {S : Type 0} → Going S → (S → Option Cluster) → Printing S → List (List ℕ) → Setting S
setting_by {S} go scene prints names = record { go = go; scene = scene; prints = prints; names = names }

-- where answers alone are printed
abbrev pub setting : {S : Type 0} → Going S → (S → Option Cluster) → List (List ℕ) → Setting S
setting {S} go scene names = setting_by go scene (answers_alone scene) names

-- a counter, the seat that plays there, and its hand, oldest first
pub record Player (S : Type 0) : Type 0 where
  pub counter : S
  pub seat : SeatView
  pub hand : List Numbered

-- with an empty hand, as it is before the first line and at the end
abbrev pub seated : {S : Type 0} → S → SeatView → Player S
seated {S} counter seat = record { counter = counter; seat = seat; hand = [] }

-- A command's call was answered so, and led from x to y: as the counter goes, with the line that the seat gains.
pub record Calls {S : Type 0} (go : Going S) (scene : S → Option Cluster) (x : Player S) (command : Command) (call : Call)
    (reply : Reply) (y : Player S) : Type 0 where
  pub goes : go x.counter x.seat.number call reply y.counter
  pub seat : y.seat ≡ gained x.seat call reply
  pub hand : HandAfter (scene x.counter) command reply x.hand y.hand
  pub answered : reply ≢ Refused NoMemory

-- a command that makes this call, or none: its answer, and the player after it
abbrev pub Commands : {S : Type 0} → Going S → (S → Option Cluster) → Player S → Command → Option Call → LineAnswer
    → Player S → Type 0
Commands {S} go scene x command None answer y = IsOwn (scene x.counter) command answer × (y ≡ x)
Commands {S} go scene x command (Some call) answer y =
    (reply : Reply) × (answer ≡ line_answer.Said reply) × Calls go scene x command call reply y

-- what a line asks for, the answer to it, and the player after it
abbrev pub IsAnswered : {S : Type 0} → Going S → (S → Option Cluster) → Player S → Result Command LineFault → LineAnswer
    → Player S → Type 0
IsAnswered {S} go scene x (Err fault) answer y = (answer ≡ line_answer.Faulty fault) × (y ≡ x)
IsAnswered {S} go scene x (Ok command) answer y = Commands go scene x command (call_of command x.hand) answer y

-- the n-th line, which asks for this: what is printed for it, and the player after it
abbrev pub Takes : {S : Type 0} → Setting S → Player S → ℕ → Option (Result Command LineFault) → List ℕ → Player S
    → Type 0
Takes {S} place x n None text y = (text ≡ []) × (y ≡ x)
Takes {S} place x n (Some asked) text y =
    (answer : LineAnswer) × IsAnswered place.go place.scene x asked answer y
    × place.prints place.names x.counter n asked answer y.counter text

-- lines in order, of which the first is the n-th
abbrev pub TakesAll : {S : Type 0} → Setting S → Player S → ℕ → List (List ℕ) → List ℕ → Player S → Type 0
TakesAll {S} place x n [] text y = (text ≡ []) × (y ≡ x)
TakesAll {S} place x n (line ∷ lines) text y =
    (first : List ℕ) × (later : List ℕ) × (mid : Player S) × (text ≡ first ++ later)
    × Takes place x n (asked place.names line) first mid × TakesAll place mid (n + 1) lines later y

-- a line's call for which there was no memory; the hand stays
abbrev pub Wants : {S : Type 0} → Going S → Player S → Result Command LineFault → Player S → Type 0
Wants {S} go x (Err fault) y = ⊥
Wants {S} go x (Ok command) y =
    (call : Call) × (call_of command x.hand ≡ Some call)
    × go x.counter x.seat.number call (Refused NoMemory) y.counter × (y.seat ≡ x.seat) × (y.hand ≡ x.hand)

-- A line that has an answer was begun, and none of it printed: it was answered; or its call found no memory; or it is a
-- survey that wasn't made, which changes nothing.
abbrev pub Begins : {S : Type 0} → Going S → (S → Option Cluster) → Player S → Option (Result Command LineFault)
    → Player S → Type 0
Begins {S} go scene x None y = ⊥
Begins {S} go scene x (Some asked) y =
    ((answer : LineAnswer) × IsAnswered go scene x asked answer y)
    ⊎ (Wants go x asked y ⊎ ((asked ≡ Ok Survey) × (y ≡ x)))

-- The line asks for a survey.
abbrev pub AsksForSurvey : Option (Result Command LineFault) → Type 0
AsksForSurvey asked = asked ≡ Some (Ok Survey)

-- Giving a finding back has one of these replies.
abbrev pub IsGivenBack : Reply → Type 0
IsGivenBack reply = (reply ≡ Discarded) ⊎ (reply ≡ Refused NotOut)

-- The hand is given back, the oldest first: this leaves the counter, and the seat.
abbrev pub GivesBack : {S : Type 0} → Going S → S → SeatView → List Numbered → S → SeatView → Type 0
GivesBack {S} go counter seat [] last end = (last ≡ counter) × (end ≡ seat)
GivesBack {S} go counter seat (finding ∷ hand) last end =
    (reply : Reply) × (mid : S) × IsGivenBack reply × go counter seat.number (discard_of finding) reply mid
    × GivesBack go mid (gained seat (discard_of finding) reply) hand last end

-- so a player ends: z has an empty hand
abbrev pub Ends : {S : Type 0} → Setting S → Player S → Player S → Type 0
Ends {S} place x z = GivesBack place.go x.counter x.seat x.hand z.counter z.seat
