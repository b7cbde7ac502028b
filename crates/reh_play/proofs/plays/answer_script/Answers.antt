use Rattle.std.proofs.Common.{List, false, sym, subst, ◌∙◌, append-nil}
use Rattle.reh_desk.specs.Numbered.{Numbered}
use Rattle.reh_play.specs.Players.{setting_by, seated, GivesBack}
use Rattle.reh_play.specs.Turns.{player, with_ticket}
use Rattle.reh_play.proofs.Answered.{stops_early, ends_well, ends_stopped}
use Rattle.reh_play.proofs.Steps.{goes_to_end, halts_first}
use Rattle.reh_play.proofs.plays.answer_script.Goals as goal

pub returns-in-Err-clause-played : goal.returns-in-Err-clause-played
returns-in-Err-clause-played g c =
    stops_early (setting_by g.C.Counter.goes g.C.Counter.scene g.P.Printer.prints c.args.tools.now.names.now) _ _ _ c.in-Err.stopped.fault _
    (with_ticket c.answer_lines.new.counter c.answer_lines.new.seat c.answer_lines.new.hand c.in-Err.stopped.ticket)
    (seated c.give_back-in-Err.new.counter c.give_back-in-Err.new.seat) _ _ c.answered-stop.ensures.lines
    (halts_first _ _ _ _ _ _ _ c.in-Err.ensures.err) c.give_back-in-Err.ensures.given

pub returns-in-None-clause-played : goal.returns-in-None-clause-played
returns-in-None-clause-played g c =
    let place = setting_by g.C.Counter.goes g.C.Counter.scene g.P.Printer.prints c.args.tools.now.names.now in
    ends_well place _ _ _ _
    (player c.answer_lines.new.counter c.answer_lines.new.seat c.answer_lines.new.hand)
    (seated c.give_back.new.counter c.give_back.new.seat) _ _ c.answered-stop.ensures.lines
    (sym c.answered-stop.ensures.stop ∙ c.in-None.is) (goes_to_end place _ _ _ _ _ _ c.in-Ok.ensures.ok)
    (subst (λ (hand : List Numbered). GivesBack place.go c.answer_lines.new.counter c.answer_lines.new.seat hand
    c.give_back.new.counter c.give_back.new.seat) (append-nil c.answer_lines.new.hand) c.give_back.ensures.given)

pub returns-in-Some-clause-played : goal.returns-in-Some-clause-played
returns-in-Some-clause-played g c =
    let place = setting_by g.C.Counter.goes g.C.Counter.scene g.P.Printer.prints c.args.tools.now.names.now in
    ends_stopped place false c.args.script.now _ c.in-Some.fault _
    (player c.answer_lines.new.counter c.answer_lines.new.seat c.answer_lines.new.hand)
    (seated c.give_back.new.counter c.give_back.new.seat) _ _ c.answered-stop.ensures.lines
    (sym c.in-Some.is ∙ c.answered-stop.ensures.stop) (goes_to_end place _ _ _ _ _ _ c.in-Ok.ensures.ok)
    (subst (λ (hand : List Numbered). GivesBack place.go c.answer_lines.new.counter c.answer_lines.new.seat hand
    c.give_back.new.counter c.give_back.new.seat) (append-nil c.answer_lines.new.hand) c.give_back.ensures.given)
