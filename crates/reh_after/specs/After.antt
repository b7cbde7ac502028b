-- What a script makes of a session, where each of its commands is accepted; and the picture of the state to which it leads.
use Rattle.std.specs.Prelude.{◌≡◌, ℕ, Bool, true, false, cond, List, [], ◌∷◌, Option, None, Some, Result, Ok, Err}
use Rattle.std.specs.Option.{option_and_then}
use Rattle.reh_types.specs.declared.moves.Move.{Move}
use Rattle.reh_types.specs.declared.moves.Reply.{Reply}
use Rattle.reh_types.specs.declared.moves.Reply.TheVariants.{Refused}
use Rattle.reh_model.specs.Cluster.{Cluster}
use Rattle.reh_model.specs.Session.{Session, opened_session, reply_to, session_after, state_of}
use Rattle.reh_fields.specs.declared.faults.PictureFault.{PictureFault}
use Rattle.reh_fields.specs.declared.faults.PictureFault.TheVariants as picture_fault
use Rattle.reh_picture.specs.declared.places.LocatedFault.{LocatedFault}
use Rattle.reh_picture.specs.Listings.{Lists, located_listing}
use Rattle.reh_picture.specs.Pictures.{picture_of}
use Rattle.reh_known.specs.Known.{AreKnown}
use Rattle.reh_picture_out.specs.Kept.{kept_of}
use Rattle.reh_picture_out.specs.Marks.{KeepsMarksIn}
use Rattle.reh_lines.specs.Lines.{lines_of}
use Rattle.reh_commands.specs.declared.commands.Command.{Command}
use Rattle.reh_commands.specs.declared.commands.Command.TheVariants.{Make, Checkout, Spend, Discard, Report, Survey}
use Rattle.reh_commands.specs.declared.commands.LineFault.{LineFault}
use Rattle.reh_commands.specs.Answers.{asked}
use Rattle.reh_after.specs.declared.faults.AfterFault.{AfterFault}
use Rattle.reh_after.specs.declared.faults.AfterFault.TheVariants as after_fault
use Rattle.reh_after.specs.declared.pictures.Begun.{Begun}

-- whether a reply accepts a move
abbrev pub is_accepted : Reply → Bool
is_accepted (Refused refusal) = false
is_accepted other = true

-- the session after a move, if it is accepted
abbrev pub after_reply : Session → Move → Reply → Option Session
after_reply m move reply = cond (is_accepted reply) (Some (session_after m move reply)) None

abbrev pub after_move : Session → Move → Option Session
after_move m move = after_reply m move (reply_to m move)

-- after a command: a report and a survey change nothing, and what is for workers' tickets isn't accepted
abbrev pub after_command : Session → Command → Option Session
after_command m (Make move) = after_move m move
after_command m (Checkout aim) = None
after_command m Spend = None
after_command m Discard = None
after_command m Report = Some m
after_command m Survey = Some m

-- after a line, by what it asks for
abbrev pub after_asked : Session → Option (Result Command LineFault) → Option Session
after_asked m None = Some m
after_asked m (Some (Ok command)) = after_command m command
after_asked m (Some (Err fault)) = None

-- after lines, if each is accepted in its place
abbrev pub after_lines : List (List ℕ) → Session → List (List ℕ) → Option Session
after_lines names m [] = Some m
after_lines names m (line ∷ lines) =
    option_and_then (λ n. after_lines names n lines) (after_asked m (asked names line))

-- a session opens on the picture, with these names of bookies
pub record IsOpened (picture : List ℕ) (names : List (List ℕ)) (session : Session) : Type 0 where
  pub opening : Cluster
  pub is_picture : picture_of picture ≡ Ok opening
  pub names_are : names ≡ opening.names
  pub session_is : session ≡ opened_session opening

pub record IsBegun (picture : List ℕ) (begun : Begun) : Type 0 where
  pub opened : IsOpened picture begun.names begun.session
  pub lists : Lists picture begun.marked

-- From what was begun the script leads to a state, by commands that are all accepted, and the text is that state's picture,
-- which questions accept, with the marks that still hold. It is known, if that is asked for, of each bookie what it holds.
pub record IsEnd (begun : Begun) (script : List ℕ) (all_known : Bool) (text : List ℕ) : Type 0 where
  pub session : Session
  pub played : after_lines begun.names begun.session (lines_of script) ≡ Some session
  pub shown : picture_of text ≡ Ok (kept_of (state_of session))
  pub listed : located_listing text ≡ None
  pub marks : KeepsMarksIn (state_of session) begun.marked text
  pub known : all_known ≡ true → AreKnown (state_of session) session.done begun.marked

-- the text is the picture of the state to which the script leads from the picture
pub record IsAfter (picture script : List ℕ) (all_known : Bool) (text : List ℕ) : Type 0 where
  pub begun : Begun
  pub is_begun : IsBegun picture begun
  pub ends : IsEnd begun script all_known text

-- the fault of a picture that is refused
abbrev pub refused_by : PictureFault → LocatedFault → AfterFault
refused_by picture_fault.NoMemory located = after_fault.NoMemory
refused_by fault located = after_fault.Picture located
