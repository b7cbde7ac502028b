-- The ticket is out no more, and the line that was reserved for it is the call's.
use Rattle.std.proofs.Common.{◌≡◌, ◌+◌, ◌++◌, ◌∷◌, [], length, sym, ◌∙◌, subst, refl, arith, Some, remove}
use Rattle.reh_types.specs.declared.calls.Call.TheVariants.{Discard}
use Rattle.reh_types.specs.declared.moves.Reply.TheVariants.{Discarded}
use Rattle.reh_model.specs.Book.{ticket, ticket_place}
use Rattle.reh_desk.specs.Callers.{with_line}
use Rattle.reh_desk.specs.Kept.{Kept, kept_of, line, Called}
use Rattle.reh_desk.specs.Seats.{own_line}
use Rattle.reh_desk.specs.Unspent.{number_of, aim_of}
use Rattle.reh_desk.proofs.Lines.{called_line, discarded, discarded_kept}
use Rattle.reh_desk.proofs.SeatCalls.{ended}
use Rattle.reh_desk.proofs.books.Book.discard_by.Goals as goal

pub invariant_of-self : goal.invariant_of-self
invariant_of-self g c =
    let i = c.self.inside in
    let at : ticket_place (ticket c.number-seat.result c.number-number.result c.aim-aim.result) i.out.items
    ≡ Some c.in-Some.place =
    rw (← c.deref.ensures.value, c.number-seat.ensures) (sym (c.in-Some.ensures.place c.in-Some.ensures.counted)) in
    let less : length (remove i.out.items c.in-Some.place) + 1 ≡ length i.out.items =
    rw (← c.end_ticket.ensures.out) c.end_ticket.ensures.fewer in
    rw (c.write.ensures.lines, c.end_ticket.ensures.out)
    (discarded_kept _ _ _ _ _ _ c.self.invariant _ _ _ _ at less (omega (arith, c.write.ensures.capacity)))

pub returns-clause-called : goal.returns-clause-called
returns-clause-called g c counted =
    let i = c.self.inside in
    let call = Discard (number_of c.args.unspent) (aim_of c.args.unspent) in
    let after = kept_of i.opening i.session c.write.new.lines.items i.last_ticket c.end_ticket.new.out.items in
    let at : ticket_place (ticket c.number-seat.result (number_of c.args.unspent) (aim_of c.args.unspent)) i.out.items
    ≡ Some c.in-Some.place =
    (λ j. ticket_place (ticket (c.number-seat.ensures j) (sym c.number-number.ensures j) (sym c.aim-aim.ensures j))
    (sym c.deref.ensures.value j))
    ∙ sym (c.in-Some.ensures.place c.in-Some.ensures.counted) in
    let pushed : c.write.new.lines.items ≡ i.lines.items ++ line c.number-seat.result call Discarded ∷ [] =
    c.write.ensures.lines
    ∙ (λ j. i.lines.items ++ line c.number-seat.result (Discard (c.number-number.ensures j) (c.aim-aim.ensures j)) Discarded ∷ []) in
    subst (λ n. Called c.args.self.now n call Discarded after) c.number-seat.ensures
    (subst (λ (k : Kept). Called k c.number-seat.result call Discarded after) c.self.view_is
    (rw (pushed, c.end_ticket.ensures.out) (called_line (discarded _ _ _ _ _ _ _ _ _ at))))

pub returns-clause-caller : goal.returns-clause-caller
returns-clause-caller g c =
    let keeps = g.C.Caller.keeps in
    ended keeps _ _ _ _ _ refl refl c.end_ticket.ensures.shown
    (c.write.ensures.own_line
    ∙ (λ j. with_line keeps (g.C.Caller.shown c.end_ticket.new.caller)
    (own_line (Discard (c.number-number.ensures j) (c.aim-aim.ensures j)) Discarded)))
