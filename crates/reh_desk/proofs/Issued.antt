-- A ticket that this book issues is one that some book issues.
use Rattle.std.specs.Prelude.{◌≡◌, ℕ, Some, Result, Ok, Err, IfOk}
use Rattle.reh_types.specs.declared.calls.Call.TheVariants.{Checkout}
use Rattle.reh_types.specs.declared.moves.Reply.TheVariants.{Issued}
use Rattle.reh_types.specs.declared.names.Aim.{Aim}
use Rattle.reh_types.specs.declared.refusals.Refusal.{Refusal}
use Rattle.reh_model.specs.Scan.{scan}
use Rattle.reh_model.specs.Session.{state_of}
use Rattle.reh_desk.specs.Kept.{Kept, Called}
use Rattle.reh_desk.specs.Tickets.{IsIssued}
use Rattle.reh_desk.specs.declared.tickets.Ticket.{Ticket}

pub issued_by_some : (book after : Kept) (seat : ℕ) (aim : Aim) (made : Result Ticket Refusal)
    → IfOk made (λ ticket. Called book seat (Checkout aim) (Issued ticket.number) after)
    → IfOk made (λ ticket. scan (state_of book.book.session) aim ≡ Some ticket.content) → IfOk made (IsIssued seat aim)
issued_by_some book after seat aim (Ok ticket) called finds =
    record { book = book; after = after; called = called; finds = finds }
issued_by_some book after seat aim (Err refusal) called finds = tt
