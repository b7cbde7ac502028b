-- An accepted event that is made has its reply, and leaves what a session keeps.
use Rattle.std.proofs.Common.{◌≡◌, ◌∙◌, ap, inl, sym, arith}
use Rattle.reh_types.specs.declared.moves.Move.TheVariants.{Do}
use Rattle.reh_types.specs.declared.moves.Reply.TheVariants.{Done}
use Rattle.reh_model.specs.Session.{Session, reply_to, moved_session}
use Rattle.reh_session.proofs.Keeps.{accepted_inside, record_inside, count_now, act_keeps, act_moves, act_done}
use Rattle.reh_session.proofs.sessions.Session.make.Goals as goal

pub exchange-requires : goal.exchange-requires
exchange-requires c =
    (record_inside c.self.invariant _ c.self.view_is c.args.event c.args.changes c.requires.record_of).fits

pub invariant_of-self-2 : goal.invariant_of-self-2
invariant_of-self-2 c =
    act_keeps c.self.invariant c.args.event
    (accepted_inside c.self.invariant _ c.self.view_is c.args.event c.requires.accepted)
    (omega (arith, count_now c.self.invariant _ c.self.view_is, c.requires.room)) _
    (record_inside c.self.invariant _ c.self.view_is c.args.event c.args.changes c.requires.record_of)
    c.exchange.new.changes _ _ _
    c.exchange.ensures.state c.exchange.ensures.inverse (rw c.reserve_next.ensures.items at c.keep.ensures)
    (rw c.reserve_next-2.ensures.items at c.keep-2.ensures)

pub returns : goal.returns
returns c =
    let accepted = accepted_inside c.self.invariant _ c.self.view_is c.args.event c.requires.accepted in
    let done : reply_to c.args.self.now (Do c.args.event) ≡ Done =
    act_done c.self.invariant _ c.self.view_is c.args.event accepted
    (omega (arith, count_now c.self.invariant _ c.self.view_is, c.requires.room)) in
    inl (
      sym done,
      act_moves c.self.invariant c.args.event accepted
          (omega (arith, count_now c.self.invariant _ c.self.view_is, c.requires.room)) _
          (record_inside c.self.invariant _ c.self.view_is c.args.event c.args.changes c.requires.record_of)
          c.exchange.new.changes _ _ _
          c.exchange.ensures.state c.exchange.ensures.inverse (rw c.reserve_next.ensures.items at c.keep.ensures)
          (rw c.reserve_next-2.ensures.items at c.keep-2.ensures)
          ∙ ap (λ (m : Session). moved_session m (Do c.args.event)) c.self.view_is,
    )
