-- Refused or not, the event has its reply, and the swaps that survive keep their promises.
use Rattle.std.proofs.Common.{◌∙◌, sym, rules}
use Rattle.reh_types.specs.declared.moves.Move.TheVariants.{Do}
use Rattle.reh_model.specs.Session.{reply_of}
use Rattle.reh_model.proofs.SwapLaws.{safe_move}
use Rattle.reh_session.proofs.Keeps.{accepted_now, record_now, act_refused, act_full, act_unmade, kept_safe}
use Rattle.reh_session.proofs.Keeps.{perform_safe}
use Rattle.reh_session.proofs.sessions.Session.act.Goals as goal

pub returns-in_err-check_event-clause-answers : goal.returns-in_err-check_event-clause-answers
returns-in_err-check_event-clause-answers c =
    search (rules, act_refused c.self.invariant _ c.self.view_is c.args.event.now _ c.in_err-check_event.ensures)

pub returns-in_err-check_event-clause-lasting : goal.returns-in_err-check_event-clause-lasting
returns-in_err-check_event-clause-lasting c = kept_safe c.self.invariant _ c.self.view_is

pub returns-then-is_full-clause-answers : goal.returns-then-is_full-clause-answers
returns-then-is_full-clause-answers c =
    act_full c.self.invariant _ c.self.view_is c.args.event.now c.in_ok-check_event.ensures
    (sym c.is_full.ensures ∙ c.if-is_full.true)

pub returns-then-is_full-clause-lasting : goal.returns-then-is_full-clause-lasting
returns-then-is_full-clause-lasting c = kept_safe c.self.invariant _ c.self.view_is

pub returns-in_err-changes-clause-answers : goal.returns-in_err-changes-clause-answers
returns-in_err-changes-clause-answers c =
    search (
      rules,
      act_unmade c.self.invariant _ c.self.view_is c.args.event.now _ (sym c.is_full.ensures ∙ c.if-is_full.false)
          c.in_err-changes.ensures.err,
    )

pub returns-in_err-changes-clause-lasting : goal.returns-in_err-changes-clause-lasting
returns-in_err-changes-clause-lasting c = kept_safe c.self.invariant _ c.self.view_is

pub make-requires-clause-accepted : goal.make-requires-clause-accepted
make-requires-clause-accepted c =
    accepted_now c.self.invariant _ c.self.view_is c.args.event.now c.in_ok-changes.ensures.accepted

pub make-requires-clause-record_of : goal.make-requires-clause-record_of
make-requires-clause-record_of c =
    record_now c.self.invariant _ c.self.view_is c.args.event.now c.in_ok-changes.changes c.in_ok-changes.ensures.delta

pub returns-clause-safe : goal.returns-clause-safe
returns-clause-safe c =
    safe_move c.args.self.now (Do c.args.event.now) (reply_of c.make.result) c.make.new.self c.make.ensures

pub returns-clause-lasting : goal.returns-clause-lasting
returns-clause-lasting c =
    perform_safe c.self.invariant _ c.self.view_is c.make.new.self (Do c.args.event.now) (reply_of c.make.result)
    c.make.ensures
