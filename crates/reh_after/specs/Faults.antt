-- Why there is no picture of the state to which a script leads.
use Rattle.std.specs.Prelude.{◌≡◌, ◌⊎◌, ◌<◌, ⊤, ℕ, ◌+◌, Bool, true, false, List, ◌∷◌, ◌++◌, length, slice_get, unwrap_or}
use Rattle.std.specs.Prelude.{Option, None, Some, Result, Ok, Err, String, codes, string_bytes}
use Rattle.std.specs.declared.alloc.Global.{Global}
use Rattle.reh_types.specs.declared.limits.TheConstants.{MAX_SCRIPT_BYTES}
use Rattle.reh_types.specs.declared.moves.Reply.{Reply}
use Rattle.reh_types.specs.declared.moves.Reply.TheVariants.{Refused as ReplyRefused}
use Rattle.reh_types.specs.declared.refusals.Refusal.TheVariants.{NoMemory}
use Rattle.reh_model.specs.Session.{Session, reply_to, state_of}
use Rattle.reh_fields.specs.declared.faults.PictureFault.{PictureFault}
use Rattle.reh_fields.specs.declared.faults.PictureFault.TheVariants as picture_fault
use Rattle.reh_picture.specs.Listings.{located_listing}
use Rattle.reh_picture.specs.Pictures.{located_picture_of}
use Rattle.reh_picture.specs.declared.listings.Listed.{Listed}
use Rattle.reh_picture.specs.declared.places.LocatedFault.{LocatedFault}
use Rattle.reh_known.specs.Known.{IsDoubted}
use Rattle.reh_known.specs.Texts.{doubt_text}
use Rattle.reh_known.specs.declared.doubts.Doubted.{Doubted}
use Rattle.reh_lines.specs.Lines.{lines_of}
use Rattle.reh_commands.specs.Answers.{asked}
use Rattle.reh_commands.specs.Texts.{line_fault_text, reply_text}
use Rattle.reh_commands.specs.declared.commands.Command.{Command}
use Rattle.reh_commands.specs.declared.commands.Command.TheVariants.{Make, Checkout, Spend, Discard, Report, Survey}
use Rattle.reh_commands.specs.declared.commands.LineFault.{LineFault}
use Rattle.reh_after.specs.After.{IsBegun, after_lines, is_accepted}
use Rattle.reh_after.specs.declared.faults.AfterFault.{AfterFault}
use Rattle.reh_after.specs.declared.faults.AfterFault.TheVariants as after_fault
use Rattle.reh_after.specs.declared.faults.Unaccepted.{Unaccepted}
use Rattle.reh_after.specs.declared.pictures.Begun.{Begun}

-- The picture

-- the picture is refused so, or its listing for a question is
abbrev pub IsRefusal : List ℕ → LocatedFault → Type 0
IsRefusal picture located =
    (located_picture_of picture ≡ Err (located.fault, located.place))
    ⊎ (located_listing picture ≡ Some (located.fault, located.place))

-- Commands that aren't accepted

-- the fault of a reply that there is no memory
abbrev pub want_of : Reply → Option AfterFault
want_of (ReplyRefused NoMemory) = Some after_fault.NoMemory
want_of reply = None

-- what is said where tickets are asked for
abbrev pub tickets_text : List ℕ
tickets_text = codes "tickets are for workers, and none is at work here"

-- a play answers so to a command that isn't accepted
abbrev pub IsRefused : List (List ℕ) → Session → Command → List ℕ → Type 0
IsRefused names m (Make move) answer =
    (is_accepted (reply_to m move) ≡ false) × (answer ≡ reply_text names (reply_to m move))
IsRefused names m (Checkout aim) answer = answer ≡ tickets_text
IsRefused names m Spend answer = answer ≡ tickets_text
IsRefused names m Discard answer = answer ≡ tickets_text
IsRefused names m Report answer = ⊥
IsRefused names m Survey answer = ⊥

-- and to a line that asks for one, or for nothing
abbrev pub IsRefusedAt : List (List ℕ) → Session → Option (Result Command LineFault) → List ℕ → Type 0
IsRefusedAt names m None answer = ⊥
IsRefusedAt names m (Some (Ok command)) answer = IsRefused names m command answer
IsRefusedAt names m (Some (Err fault)) answer = answer ≡ line_fault_text fault

-- of these lines so many were accepted, and led from one session to another, and these are left
pub record AreAccepted (names : List (List ℕ)) (m : Session) (lines left : List (List ℕ)) (number : ℕ) (n : Session) : Type 0 where
  pub before : List (List ℕ)
  pub split : lines ≡ before ++ left
  pub count : number ≡ length before
  pub leads : after_lines names m before ≡ Some n

-- the first of these lines whose command isn't accepted, by its number from 1, and what a play answers to it
pub record IsUnaccepted (names : List (List ℕ)) (m : Session) (lines : List (List ℕ)) (found : Unaccepted) : Type 0 where
  pub line : List ℕ
  pub later : List (List ℕ)
  pub number : ℕ
  pub session : Session
  pub before : AreAccepted names m lines (line ∷ later) number session
  pub numbered : found.line ≡ number + 1
  pub refused : IsRefusedAt names session (asked names line) (string_bytes found.answer)

-- what is said of the line of this number, by what is answered to it
abbrev pub IsFaultAt : ℕ → (List ℕ → Type 0) → AfterFault → Type 0
IsFaultAt number answers (after_fault.Unaccepted found) = (found.line ≡ number) × answers (string_bytes found.answer)
IsFaultAt number answers after_fault.NoMemory = ⊤
IsFaultAt number answers other = ⊥

-- the same, if the answer could be made
abbrev pub unaccepted_by : {E : Type 0} → ℕ → Result (String Global) E → AfterFault
unaccepted_by {E} number (Ok answer) = after_fault.Unaccepted (record { line = number; answer = answer })
unaccepted_by {E} number (Err want) = after_fault.NoMemory

-- what is said where a command of these lines isn't accepted
abbrev pub IsLineFault : List (List ℕ) → Session → List (List ℕ) → AfterFault → Type 0
IsLineFault names m lines (after_fault.Unaccepted found) = IsUnaccepted names m lines found
IsLineFault names m lines after_fault.NoMemory = ⊤
IsLineFault names m lines other = ⊥

-- Doubts

-- what is said of what was found: the bookie goes by its name
abbrev pub IsDoubtOf : List (List ℕ) → Doubted → AfterFault → Type 0
IsDoubtOf names found (after_fault.Doubt text) =
    string_bytes text ≡ doubt_text found.doubt (unwrap_or (slice_get names found.bookie) (codes "")) found.ledger
IsDoubtOf names found after_fault.NoMemory = ⊤
IsDoubtOf names found other = ⊥

-- a script went by what isn't told, which this says
pub record IsDoubtFault (names : List (List ℕ)) (m : Session) (marked : Listed) (fault : AfterFault) : Type 0 where
  pub found : Doubted
  pub doubted : IsDoubted (state_of m) m.done marked found
  pub says : IsDoubtOf names found fault

-- All

-- what is said where no picture holds the state at the end
abbrev pub unheld_by : PictureFault → AfterFault
unheld_by picture_fault.NoMemory = after_fault.NoMemory
unheld_by fault = after_fault.Unheld fault

-- each command of the script is accepted, and at the end something is in doubt, which this says
pub record EndsInDoubt (begun : Begun) (script : List ℕ) (fault : AfterFault) : Type 0 where
  pub session : Session
  pub played : after_lines begun.names begun.session (lines_of script) ≡ Some session
  pub doubt : IsDoubtFault begun.names session begun.marked fault

-- each command of the script is accepted
pub record IsPlayed (begun : Begun) (script : List ℕ) : Type 0 where
  pub session : Session
  pub played : after_lines begun.names begun.session (lines_of script) ≡ Some session

-- Why there is no end of the script from what was begun. A state that no picture holds has no further condition.
abbrev pub IsEndFault : Begun → List ℕ → Bool → AfterFault → Type 0
IsEndFault begun script all_known (after_fault.Unaccepted found) =
    IsUnaccepted begun.names begun.session (lines_of script) found
IsEndFault begun script all_known (after_fault.Doubt text) =
    (all_known ≡ true) × EndsInDoubt begun script (after_fault.Doubt text)
IsEndFault begun script all_known (after_fault.Unheld fault) = IsPlayed begun script
IsEndFault begun script all_known after_fault.NoMemory = ⊤
IsEndFault begun script all_known other = ⊥

-- why nothing is begun on a picture
abbrev pub IsBeginFault : List ℕ → AfterFault → Type 0
IsBeginFault picture (after_fault.Picture located) = IsRefusal picture located
IsBeginFault picture after_fault.NoMemory = ⊤
IsBeginFault picture other = ⊥

-- something was begun on the picture, and the script has no end from there
pub record HasNoEnd (picture script : List ℕ) (all_known : Bool) (fault : AfterFault) : Type 0 where
  pub begun : Begun
  pub is_begun : IsBegun picture begun
  pub is_fault : IsEndFault begun script all_known fault

-- why there is no picture of the state to which the script leads from the picture
abbrev pub IsAfterFault : List ℕ → List ℕ → Bool → AfterFault → Type 0
IsAfterFault picture script all_known after_fault.TooLong = MAX_SCRIPT_BYTES < length script
IsAfterFault picture script all_known (after_fault.Picture located) = IsRefusal picture located
IsAfterFault picture script all_known after_fault.NoMemory = ⊤
IsAfterFault picture script all_known fault = HasNoEnd picture script all_known fault
