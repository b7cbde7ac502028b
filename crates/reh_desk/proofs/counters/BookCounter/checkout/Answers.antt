-- The book issues it.
use Rattle.std.proofs.Common.{subst}
use Rattle.std.specs.Prelude.{IfOk}
use Rattle.reh_desk.specs.Seats.{SeatView}
use Rattle.reh_desk.specs.Tickets.{IsIssued}
use Rattle.reh_desk.proofs.Issued.{issued_by_some}
use Rattle.reh_desk.proofs.counters.BookCounter.checkout.Goals as goal

pub returns-clause-issued : goal.returns-clause-issued
returns-clause-issued c =
    subst (λ (s : SeatView). IfOk c.checkout_by.result (IsIssued s.number c.args.aim)) c.seat.view_is
    (issued_by_some _ _ _ _ c.checkout_by.result c.checkout_by.ensures.issued c.checkout_by.ensures.ticket)
