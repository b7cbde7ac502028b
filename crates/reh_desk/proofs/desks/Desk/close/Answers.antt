use Rattle.std.proofs.Common.{◌≡◌, Ok, Err, sym, subst, inr}
use Rattle.std.specs.Prelude.{◌↔◌}
use Rattle.reh_desk.specs.declared.desks.CloseCause.{CloseCause}
use Rattle.reh_desk.specs.declared.desks.CloseCause.TheVariants.{Seats}
use Rattle.reh_desk.specs.Desks.{DeskView, AreSeats, Settles}
use Rattle.reh_desk.proofs.Closing.{closed, not_for_seats}
use Rattle.reh_desk.proofs.desks.Desk.close.Goals as goal

pub returns-in-Ok-clause-closed : goal.returns-in-Ok-clause-closed
returns-in-Ok-clause-closed c =
    let own = subst (AreSeats c.self.inside.seats) c.deref.ensures.value (c.are_seats.ensures.0 c.if-not-are_seats.false) in
    let settles = subst (λ seats. Settles c.into_inner-book.result c.self.inside.opening seats (Ok tt)) c.deref-2.ensures.value c.in-Ok.ensures.settles in
    closed c.args.self c.into_inner-book.result c.args.seats.items _ _
    (subst (λ (d : DeskView). AreSeats d.seats c.args.seats.items) c.self.view_is own)
    (subst (λ (d : DeskView). Settles c.into_inner-book.result d.opening c.args.seats.items (Ok tt)) c.self.view_is settles)
    c.into_parts-session.ensures.session c.into_parts-session.ensures.tape c.into_parts-session.ensures.legal

pub returns-in-Err-clause-seats : goal.returns-in-Err-clause-seats
returns-in-Err-clause-seats c =
    let own = subst (AreSeats c.self.inside.seats) c.deref.ensures.value (c.are_seats.ensures.0 c.if-not-are_seats.false) in
    subst (λ (cause : CloseCause). (cause ≡ Seats) ↔ (AreSeats c.args.self.seats c.args.seats.items → ⊥)) (sym c.from-cause.ensures)
    (not_for_seats c.args.self.seats c.args.seats.items c.in-Err.unsettled
    (subst (λ (d : DeskView). AreSeats d.seats c.args.seats.items) c.self.view_is own))

pub returns-in-Err-clause-book : goal.returns-in-Err-clause-book
returns-in-Err-clause-book c =
    let settles = subst (λ seats. Settles c.into_inner-book.result c.self.inside.opening seats (Err c.in-Err.unsettled)) c.deref-2.ensures.value c.in-Err.ensures.settles in
    inr (record {
      book = c.into_inner-book.result;
      legal = c.in-Err.ensures.legal;
      unsettled = c.in-Err.unsettled;
      settles = subst (λ (d : DeskView). Settles c.into_inner-book.result d.opening c.args.seats.items (Err c.in-Err.unsettled)) c.self.view_is settles;
      told = c.from-cause.ensures;
    })
