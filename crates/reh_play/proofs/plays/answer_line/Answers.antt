use Rattle.std.specs.Prelude.{None}
use Rattle.reh_crew.specs.declared.surveyors.SurveyFault.TheVariants.{NoMemory}
use Rattle.reh_play.specs.Players.{Begins}
use Rattle.reh_play.specs.Turns.{player, with_ticket}
use Rattle.reh_commands.specs.Answers.{asked}
use Rattle.reh_play.proofs.Turns.{begins_answered, begins_line, without_ticket, if_err}
use Rattle.reh_play.proofs.plays.answer_line.Goals as goal

pub returns-in_err-answer-clause-err : goal.returns-in_err-answer-clause-err
returns-in_err-answer-clause-err g c =
    if_err (λ u. Begins g.C.Counter.goes g.C.Counter.scene
    (player c.args.counter.now c.args.seat.now c.args.hand.now)
    (asked c.args.tools.now.names.now c.args.line.now)
    (with_ticket c.answer.new.counter c.answer.new.seat c.answer.new.hand u.ticket))
    _ c.in_err-answer.field-0.0 c.from_residual.ensures.1
    (begins_line g.C.Counter.goes g.C.Counter.scene c.args.tools.now.names.now c.args.line.now _ _ _
    c.in-Some.ensures c.in_err-answer.ensures.err)

pub returns-in_err-print-clause-err : goal.returns-in_err-print-clause-err
returns-in_err-print-clause-err g c =
    if_err (λ u. Begins g.C.Counter.goes g.C.Counter.scene
    (player c.args.counter.now c.args.seat.now c.args.hand.now)
    (asked c.args.tools.now.names.now c.args.line.now)
    (with_ticket c.answer.new.counter c.answer.new.seat c.answer.new.hand u.ticket))
    _ (record { fault = NoMemory; ticket = None }) c.from_residual-in_err-print.ensures.1
    (begins_line g.C.Counter.goes g.C.Counter.scene c.args.tools.now.names.now c.args.line.now _ _ _
    c.in-Some.ensures
    (without_ticket g.C.Counter.goes g.C.Counter.scene _ _ _ _ _
    (begins_answered g.C.Counter.goes g.C.Counter.scene _ _ c.in_ok-answer.answer _ c.in_ok-answer.ensures.ok)))
