-- The tickets that a tape issues, and those that it ends; and how a book issues one.
use Rattle.std.specs.Prelude.{◌≡◌, ℕ, List, [], ◌∷◌, map, Some}
use Rattle.std.specs.List.{flat_map}
use Rattle.reh_types.specs.declared.calls.Call.{Call}
use Rattle.reh_types.specs.declared.calls.Call.TheVariants.{Ask, Checkout, Spend, Discard}
use Rattle.reh_types.specs.declared.calls.Line.{Line}
use Rattle.reh_types.specs.declared.calls.TicketOut.{TicketOut}
use Rattle.reh_types.specs.declared.moves.Reply.{Reply}
use Rattle.reh_types.specs.declared.moves.Reply.TheVariants.{Issued}
use Rattle.reh_types.specs.declared.names.Aim.{Aim}
use Rattle.reh_model.specs.Book.{ticket, issued_by}
use Rattle.reh_model.specs.Scan.{scan}
use Rattle.reh_model.specs.Session.{state_of}
use Rattle.reh_desk.specs.Kept.{Kept, Called}
use Rattle.reh_desk.specs.Numbered.{Numbered}

-- the ticket that a call with this reply issues, if it issues one: a checkout's, to the seat that calls, for its aim
abbrev pub issued_ticket : ℕ → Call → Reply → List TicketOut
issued_ticket seat (Ask move) reply = []
issued_ticket seat (Checkout aim) reply = map (λ number. ticket seat number aim) (issued_by reply)
issued_ticket seat (Spend number content) reply = []
issued_ticket seat (Discard number aim) reply = []

-- the ticket that a call ends where it adds a line, if it ends one: that of the seat that calls, by the number and the
-- aim that it names
abbrev pub ended_ticket : ℕ → Call → List TicketOut
ended_ticket seat (Ask move) = []
ended_ticket seat (Checkout aim) = []
ended_ticket seat (Spend number content) = ticket seat number content.aim ∷ []
ended_ticket seat (Discard number aim) = ticket seat number aim ∷ []

-- the tickets that are issued on a tape, in its order
abbrev pub issued_tickets : List Line → List TicketOut
issued_tickets tape = flat_map (λ line. issued_ticket line.seat line.call line.reply) tape

-- the tickets that the spends and the discards of a tape end, in its order
abbrev pub ended_tickets : List Line → List TicketOut
ended_tickets tape = flat_map (λ line. ended_ticket line.seat line.call) tape

-- Some book issues this ticket to a seat for an aim, and what is found with it is what a scan finds in that book's state then.
pub record IsIssued (seat : ℕ) (aim : Aim) (found : Numbered) : Type 0 where
  pub book : Kept
  pub after : Kept
  pub called : Called book seat (Checkout aim) (Issued found.number) after
  pub finds : scan (state_of book.book.session) aim ≡ Some found.content
