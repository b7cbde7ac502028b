-- The ticket is out no more, and the line that was reserved for it is the post's.
use Rattle.std.proofs.Common.{◌≡◌, ◌+◌, ◌++◌, ◌∷◌, [], length, sym, ap, ◌∙◌, subst, refl, arith, Some, remove}
use Rattle.reh_types.specs.declared.calls.Call.TheVariants.{Spend}
use Rattle.reh_types.specs.declared.calls.Line.{Line}
use Rattle.reh_types.specs.declared.contents.Content.{Content}
use Rattle.reh_types.specs.declared.moves.Move.TheVariants.{Post}
use Rattle.reh_model.specs.Session.{reply_to, session_after}
use Rattle.reh_model.specs.Book.{ticket, ticket_place, is_written}
use Rattle.reh_model.proofs.BookLaws.{post_written}
use Rattle.reh_desk.specs.Kept.{Kept, kept_of, line, Called}
use Rattle.reh_desk.specs.Callers.{with_line}
use Rattle.reh_desk.specs.Seats.{own_line}
use Rattle.reh_desk.proofs.Lines.{called_line, spent, spent_kept}
use Rattle.reh_desk.proofs.SeatCalls.{ended}
use Rattle.reh_desk.proofs.books.Book.spend_by.Given.{Over}
use Rattle.reh_desk.proofs.books.Book.spend_by.Goals as goal
use Rattle.reh_desk.proofs.books.Book.spend_by.Goals.{After-write}

found : (g : Over) (c : After-write g)
    → ticket_place (ticket c.number-seat.result c.args.finding.number c.args.finding.content.aim) c.self.inside.out.items
    ≡ Some c.in-Some.place
found g c =
    (λ j. ticket_place (ticket (c.number-seat.ensures j) (sym c.number-number.ensures j) (sym c.aim-aim.ensures j))
    (sym c.deref.ensures.value j))
    ∙ sym (c.in-Some.ensures.place c.in-Some.ensures.counted)

answered : (g : Over) (c : After-write g) → c.in-Ok.reply ≡ reply_to c.self.inside.session (Post c.args.finding.content)
answered g c = c.in-Ok.ensures.0 ∙ ap (λ (x : Content). reply_to c.self.inside.session (Post x)) c.content.ensures

made : (g : Over) (c : After-write g)
    → c.post.new.session ≡ session_after c.self.inside.session (Post c.args.finding.content) c.in-Ok.reply
made g c =
    c.in-Ok.ensures.1
    ∙ ap (λ (x : Content). session_after c.self.inside.session (Post x) c.in-Ok.reply) c.content.ensures

called : (g : Over) (c : After-write g)
    → c.tape_line.result ≡ line c.number-seat.result (Spend c.args.finding.number c.args.finding.content) c.in-Ok.reply
called g c =
    c.tape_line.ensures
    ∙ (λ j. line c.number-seat.result (Spend (c.number-number.ensures j) (c.into_contents-content.ensures.0 j)) c.in-Ok.reply)

pushed : (g : Over) (c : After-write g)
    → c.write.new.lines.items
    ≡ c.self.inside.lines.items ++ line c.number-seat.result (Spend c.args.finding.number c.args.finding.content) c.in-Ok.reply ∷ []
pushed g c = c.write.ensures.lines ∙ ap (λ (l : Line). c.self.inside.lines.items ++ l ∷ []) (called g c)

pub invariant_of-self-2 : goal.invariant_of-self-2
invariant_of-self-2 g c =
    let i = c.self.inside in
    let less : length (remove i.out.items c.in-Some.place) + 1 ≡ length i.out.items =
    rw (← c.end_ticket.ensures.out) c.end_ticket.ensures.fewer in
    rw (pushed g c, c.end_ticket.ensures.out)
    (spent_kept _ _ _ _ _ _ c.self.invariant _ _ _ _ _ _ (found g c) (answered g c) (made g c) less
    (omega (arith, c.write.ensures.capacity)))

pub returns-clause-called : goal.returns-clause-called
returns-clause-called g c counted =
    let i = c.self.inside in
    let call = Spend c.args.finding.number c.args.finding.content in
    let after =
    kept_of i.opening c.post.new.session c.write.new.lines.items i.last_ticket c.end_ticket.new.out.items in
    subst (λ n. Called c.args.self.now n call c.in-Ok.reply after) c.number-seat.ensures
    (subst (λ (k : Kept). Called k c.number-seat.result call c.in-Ok.reply after) c.self.view_is
    (rw (pushed g c, c.end_ticket.ensures.out)
    (called_line (spent _ _ _ _ _ _ _ _ _ _ _ (found g c) (answered g c) (made g c)))))

pub returns-clause-written : goal.returns-clause-written
returns-clause-written g c = ap is_written (answered g c) ∙ post_written c.self.inside.session c.args.finding.content

pub returns-clause-caller : goal.returns-clause-caller
returns-clause-caller g c =
    let keeps = g.C.Caller.keeps in
    ended keeps _ _ _ _ _ (returns-clause-written g c) refl c.end_ticket.ensures.shown
    (c.write.ensures.own_line
    ∙ ap (λ (l : Line). with_line keeps (g.C.Caller.shown c.end_ticket.new.caller) (own_line l.call l.reply)) (called g c))
