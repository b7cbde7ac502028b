-- The seat still counts the tickets that are out.
use Rattle.std.proofs.Common.{sym, ap, ◌∙◌}
use Rattle.reh_desk.specs.Seats.{SeatView}
use Rattle.reh_desk.proofs.SeatCalls.{discarded_counted}
use Rattle.reh_desk.proofs.counters.BookCounter.discard.Goals as goal

pub returns-clause-may : goal.returns-clause-may
returns-clause-may c =
    let s = c.seat.inside.caller.seat in
    rw c.discard_by.ensures.caller
    (discarded_counted _ _ s _ _ _ (c.requires ∙ sym (ap (λ (s : SeatView). s.out) c.seat.view_is))
    c.discard_by.ensures.called c.discard_by.ensures.none)
