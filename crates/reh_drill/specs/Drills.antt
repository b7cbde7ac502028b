-- A drill: several operators, each with a script of its own, at one desk.
use Rattle.std.specs.Prelude.{◌≡◌, ◌⊎◌, ℕ, ◌+◌, ◌<◌, Bool, true, false, List, [], ◌∷◌, ◌++◌, map, length, codes}
use Rattle.std.specs.Prelude.{Option, None, Some, Result, Ok, Err}
use Rattle.std.specs.Fmt.{decimal}
use Rattle.std.specs.List.{flat_map}
use Rattle.std.specs.Io.KnownBytes.{Appends, Keeps}
use Rattle.reh_types.specs.declared.calls.Line.{Line}
use Rattle.reh_model.specs.Cluster.{Cluster}
use Rattle.reh_model.specs.Session.{Session, state_of, opened_session}
use Rattle.reh_desk.specs.Closings.{IsUnsettled}
use Rattle.reh_desk.specs.Desks.{DeskView, AreNew, AreNewFrom, AreSeated, AreSeats, IsClosed, IsHistory, own_lines}
use Rattle.reh_desk.specs.Seats.{SeatView, new_seat}
use Rattle.reh_desk.specs.declared.desks.CloseCause.{CloseCause}
use Rattle.reh_desk.specs.declared.desks.CloseCause.TheVariants.{Seats}
use Rattle.reh_desk.specs.declared.desks.CloseFault.{CloseFault}
use Rattle.reh_desk.specs.declared.desks.Closed.{Closed}
use Rattle.reh_fields.specs.declared.faults.PictureFault.{PictureFault}
use Rattle.reh_play.specs.DeskPlays.{at_desk, sitting, PlaysAtDesk}
use Rattle.reh_lines.specs.Lines.{answered_lines}
use Rattle.reh_play.specs.Plays.{AnswersAll, stop_of, is_write_fault}
use Rattle.reh_commands.specs.Texts.{report, text_of}
use Rattle.reh_play.specs.declared.faults.PlayFault.{PlayFault}
use Rattle.reh_play.specs.declared.faults.PlayFault.TheVariants as play_fault
use Rattle.reh_drill.specs.Faults.{drill_fault_of}
use Rattle.reh_drill.specs.declared.faults.DrillFault.{DrillFault}
use Rattle.reh_drill.specs.declared.faults.DrillFault.TheVariants.{Picture, WriteFault, NoMemory, Close}
use Rattle.reh_drill.specs.declared.openings.Room.{Room}
use Rattle.reh_drill.specs.declared.operators.Outcome.{Outcome}

-- Texts

-- the transcripts in order, of which the first is the k-th operator's, each after its line
abbrev pub transcripts_from : ℕ → List (List ℕ) → List ℕ
transcripts_from k [] = []
transcripts_from k (transcript ∷ more) =
    (codes "operator " ++ (decimal k ++ codes "\n")) ++ (transcript ++ transcripts_from (k + 1) more)

-- what comes after them: how many lines the tape has, and the report of the last state
abbrev pub end_text : ℕ → Cluster → List ℕ
end_text lines state = codes "tape " ++ (decimal lines ++ (codes "\n" ++ text_of (report state)))

-- A text was written; or a part of it, where a write failed, and some of it is lost.
abbrev pub Writes : {E : Type 0} → Result (Unit {0}) E → List ℕ → Option (List ℕ) → Option (List ℕ) → Type 0
Writes {E} (Ok done) text old new = Appends old new text
Writes {E} (Err fault) text old new =
    (part : List ℕ) × (lost : List ℕ) × (part ++ lost ≡ text) × (0 < length lost) × Appends old new part

-- whether a run ends for a failed write, and whether an operator's play does
abbrev pub is_lost : Result (Unit {0}) DrillFault → Bool
is_lost (Err WriteFault) = true
is_lost result = false

abbrev pub is_lost_play : Option PlayFault → Bool
is_lost_play None = false
is_lost_play (Some fault) = is_write_fault (Err fault)

-- Openings

-- a desk with so many seats, on a session that opens on this state
abbrev pub desk_of : Cluster → ℕ → DeskView
desk_of state count = record { opening = opened_session state; seats = count }

-- such a desk with its seats, which are new, and the names of the bookies
pub record IsRoom (state : Cluster) (count : ℕ) (room : Room) : Type 0 where
  pub desk : room.desk ≡ desk_of state count
  pub seats : AreNew count room.seats.items
  pub names : room.names ≡ state.names

-- A picture that shows a state has a desk opened on it, and any other is refused with its fault, unless there is no
-- memory for it.
abbrev pub OpensDesk : Result Cluster PictureFault → ℕ → Result Room DrillFault → Type 0
OpensDesk (Ok state) count (Ok room) = IsRoom state count room
OpensDesk (Ok state) count (Err refused) = refused ≡ NoMemory
OpensDesk (Err fault) count (Ok room) = ⊥
OpensDesk (Err fault) count (Err refused) = (refused ≡ Picture fault) ⊎ (refused ≡ NoMemory)

-- Operators

-- why a play ended early whose transcript was kept in memory: a transcript that can't grow is out of memory
abbrev pub fault_in_memory : Result (Unit {0}) PlayFault → Option PlayFault
fault_in_memory (Ok done) = None
fault_in_memory (Err play_fault.WriteFault) = Some play_fault.NoMemory
fault_in_memory (Err fault) = Some fault

-- An operator's play of its script by a seat of a desk, whatever ended it.
pub record IsOutcome (names : List (List ℕ)) (seat : SeatView) (script : List ℕ) (outcome : Outcome) : Type 0 where
  pub ended : Result (Unit {0}) PlayFault
  pub played : PlaysAtDesk names script ended seat outcome.seat (Some []) (Some outcome.transcript.items)
  pub fault : outcome.fault ≡ fault_in_memory ended

-- the outcome of an operator, or that there was no thread for it
abbrev pub OnePlayed : List (List ℕ) → SeatView → List ℕ → Result Outcome PlayFault → Type 0
OnePlayed names seat script (Ok outcome) = IsOutcome names seat script outcome
OnePlayed names seat script (Err fault) = fault ≡ play_fault.NoThread

-- the seats each played a script, in order
abbrev pub AllPlayed : List (List ℕ) → List SeatView → List (List ℕ) → List (Result Outcome PlayFault) → Type 0
AllPlayed names [] [] [] = Unit {0}
AllPlayed names (seat ∷ seats) (script ∷ scripts) (outcome ∷ outcomes) =
    OnePlayed names seat script outcome × AllPlayed names seats scripts outcomes
AllPlayed names seats scripts outcomes = ⊥

-- an operator's transcript, which is empty where there was no thread for it
abbrev pub transcript_of : Result Outcome PlayFault → List ℕ
transcript_of (Ok outcome) = outcome.transcript.items
transcript_of (Err fault) = []

-- why an operator's play ended early, if it did
abbrev pub fault_of : Result Outcome PlayFault → Option PlayFault
fault_of (Ok outcome) = outcome.fault
fault_of (Err fault) = Some fault

abbrev pub or_else : Option PlayFault → Option PlayFault → Option PlayFault
or_else None later = later
or_else (Some fault) later = Some fault

-- the fault of the lowest operator that has one
abbrev pub first_fault : List (Result Outcome PlayFault) → Option PlayFault
first_fault [] = None
first_fault (outcome ∷ outcomes) = or_else (fault_of outcome) (first_fault outcomes)

-- the seat that an operator hands back, if there was a thread for it
abbrev pub seat_of : Result Outcome PlayFault → List SeatView
seat_of (Ok outcome) = outcome.seat ∷ []
seat_of (Err fault) = []

-- Drills

-- The seat of this number played a script to its end, and the lines of its calls are its lines on the tape.
pub record IsOperated (names : List (List ℕ)) (k : ℕ) (tape : List Line) (script transcript : List ℕ) : Type 0 where
  pub end : SeatView
  pub whole : stop_of false script ≡ None
  pub play : AnswersAll (at_desk names) (answered_lines false script) (sitting (new_seat k)) (sitting end)
      (Some []) (Some transcript)
  pub text : play.text ≡ transcript
  pub lines : end.lines ≡ own_lines k tape

-- the scripts in order, of which the first is played by the seat of number k
abbrev pub AreOperated : List (List ℕ) → ℕ → List Line → List (List ℕ) → List (List ℕ) → Type 0
AreOperated names k tape [] [] = Unit {0}
AreOperated names k tape (script ∷ scripts) (transcript ∷ more) =
    IsOperated names k tape script transcript × AreOperated names (k + 1) tape scripts more
AreOperated names k tape scripts more = ⊥

-- A drill of these scripts on this state went well, and has this text. There is one tape of all calls, legal from the
-- session that opens on the state, with no ticket out at its end; it has the calls of the operators in some order and
-- no others.
pub record IsDrilled (state : Cluster) (scripts : List (List ℕ)) (text : List ℕ) : Type 0 where
  pub tape : List Line
  pub end : Session
  pub transcripts : List (List ℕ)
  pub history : IsHistory (opened_session state) tape end
  pub seated : AreSeated (length scripts) tape
  pub operated : AreOperated state.names 0 tape scripts transcripts
  pub text_is : text ≡ transcripts_from 1 transcripts ++ end_text (length tape) (state_of end)

-- The operators of a drill ended so, each by a seat that was new.
pub record AreOutcomes (state : Cluster) (scripts : List (List ℕ)) (outcomes : List (Result Outcome PlayFault))
    : Type 0 where
  pub seats : List SeatView
  pub new : AreNewFrom 0 seats
  pub played : AllPlayed state.names seats scripts outcomes

-- all that the operators printed
abbrev pub transcripts_of : List (Result Outcome PlayFault) → List ℕ
transcripts_of outcomes = transcripts_from 1 (map transcript_of outcomes)

-- Desks at their end

-- A desk that closed with these seats has this text.
pub record ClosesWith (desk : DeskView) (seats : List SeatView) (text : List ℕ) : Type 0 where
  pub tape : List Line
  pub end : Session
  pub closed : IsClosed desk seats end tape
  pub is : text ≡ end_text (length tape) (state_of end)

-- why it doesn't close with these seats: they are not its own, each once; or its book does not settle with them
abbrev pub IsCauseOf : DeskView → List SeatView → CloseCause → Type 0
IsCauseOf desk seats cause =
    ((cause ≡ Seats) × (AreSeats desk.seats seats → ⊥)) ⊎ IsUnsettled desk.opening seats cause

-- the fault of a desk that doesn't close, or whose text isn't made: nothing is written then
abbrev pub IsUnclosed : DeskView → List SeatView → DrillFault → Type 0
IsUnclosed desk seats fault =
    ((cause : CloseCause) × IsCauseOf desk seats cause × (fault ≡ Close cause)) ⊎ (fault ≡ NoMemory)

-- A desk is closed with these seats, and its text is written, or a part of it, where a write failed.
abbrev pub Closes : DeskView → List SeatView → Result (Unit {0}) DrillFault → Option (List ℕ) → Option (List ℕ) → Type 0
Closes desk seats (Ok done) old new = (text : List ℕ) × ClosesWith desk seats text × Appends old new text
Closes desk seats (Err fault) old new =
    (IsUnclosed desk seats fault × Keeps old new)
    ⊎ ((fault ≡ WriteFault) × (text : List ℕ) × ClosesWith desk seats text × Writes (Err fault) text old new)

-- the text of a desk that closed
abbrev pub closed_text : Closed → List ℕ
closed_text closed = end_text (length closed.tape.items) (state_of closed.session)

-- What a desk answered that was to be closed is written: the text of one that closed, or a part of it, where a write failed. Of
-- one that doesn't close nothing is written, and the fault has the cause that it gave.
abbrev pub EndsClosed : Result Closed CloseFault → Result (Unit {0}) DrillFault → Option (List ℕ) → Option (List ℕ) → Type 0
EndsClosed (Ok closed) (Ok done) old new = Appends old new (closed_text closed)
EndsClosed (Ok closed) (Err fault) old new =
    ((fault ≡ NoMemory) × Keeps old new)
    ⊎ ((fault ≡ WriteFault) × Writes (Err fault) (closed_text closed) old new)
EndsClosed (Err refused) (Ok done) old new = ⊥
EndsClosed (Err refused) (Err fault) old new = (fault ≡ Close refused.cause) × Keeps old new

-- Why a drill ends early whose operators ended so: the lowest one's fault, where one has any, or what the desk answers
-- that doesn't close, or out of memory for what comes after the transcripts. All of these are written.
abbrev pub EndsFor : DeskView → List (Result Outcome PlayFault) → DrillFault → Type 0
EndsFor desk outcomes fault =
    ((reason : PlayFault) × (first_fault outcomes ≡ Some reason) × (fault ≡ drill_fault_of reason))
    ⊎ ((first_fault outcomes ≡ None) × IsUnclosed desk (flat_map seat_of outcomes) fault)

-- What is printed of a desk whose operators all ended well.
pub record EndsWith (desk : DeskView) (outcomes : List (Result Outcome PlayFault)) (text : List ℕ) : Type 0 where
  pub fine : first_fault outcomes ≡ None
  pub behind : List ℕ
  pub closes : ClosesWith desk (flat_map seat_of outcomes) behind
  pub is : text ≡ transcripts_of outcomes ++ behind

-- What the operators of a desk printed is written, and of a desk that closes its text; or a part of these.
abbrev pub Ends : DeskView → List (Result Outcome PlayFault) → Result (Unit {0}) DrillFault → Option (List ℕ)
    → Option (List ℕ) → Type 0
Ends desk outcomes (Ok done) old new = (text : List ℕ) × EndsWith desk outcomes text × Appends old new text
Ends desk outcomes (Err fault) old new =
    (EndsFor desk outcomes fault × Appends old new (transcripts_of outcomes))
    ⊎ ((fault ≡ WriteFault)
    × (text : List ℕ) × ((text ≡ transcripts_of outcomes) ⊎ EndsWith desk outcomes text)
    × Writes (Err fault) text old new)

pub record EndsEarly (state : Cluster) (scripts : List (List ℕ)) (fault : DrillFault) (old new : Option (List ℕ))
    : Type 0 where
  pub outcomes : List (Result Outcome PlayFault)
  pub are : AreOutcomes state scripts outcomes
  pub reason : EndsFor (desk_of state (length scripts)) outcomes fault
  pub written : Appends old new (transcripts_of outcomes)

-- What a drill has to print: the transcripts of operators that ended so, or the whole text, where it went well.
abbrev pub HasToPrint : Cluster → List (List ℕ) → List ℕ → Type 0
HasToPrint state scripts text =
    ((outcomes : List (Result Outcome PlayFault)) × AreOutcomes state scripts outcomes
    × (text ≡ transcripts_of outcomes))
    ⊎ IsDrilled state scripts text

-- A write failed: of what the drill has to print, a part was written.
pub record StopsWriting (state : Cluster) (scripts : List (List ℕ)) (fault : DrillFault) (old new : Option (List ℕ))
    : Type 0 where
  pub is : fault ≡ WriteFault
  pub text : List ℕ
  pub prints : HasToPrint state scripts text
  pub written : Writes (Err fault) text old new

-- there was no memory, and nothing was written
abbrev pub IsNotBegun : DrillFault → Option (List ℕ) → Option (List ℕ) → Type 0
IsNotBegun fault old new = (fault ≡ NoMemory) × Keeps old new

-- How a drill of these scripts ends, on what a picture shows: where that is a fault, nothing is written.
abbrev pub Drills : Result Cluster PictureFault → List (List ℕ) → Result (Unit {0}) DrillFault → Option (List ℕ)
    → Option (List ℕ) → Type 0
Drills (Err reason) scripts (Ok done) old new = ⊥
Drills (Err reason) scripts (Err fault) old new = ((fault ≡ Picture reason) ⊎ (fault ≡ NoMemory)) × Keeps old new
Drills (Ok state) scripts (Ok done) old new = (text : List ℕ) × IsDrilled state scripts text × Appends old new text
Drills (Ok state) scripts (Err fault) old new =
    IsNotBegun fault old new
    ⊎ (EndsEarly state scripts fault old new ⊎ StopsWriting state scripts fault old new)
