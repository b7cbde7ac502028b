use Rattle.std.proofs.Common.{◌∙◌}
use Rattle.reh_script.proofs.JsonRuns.{tells_object}
use Rattle.reh_script.proofs.as_json.AsJsonPrinterBook.print.Goals as goal

pub returns : goal.returns
returns c =
    tells_object c.push_line.result c.args.names.now c.args.counter.now c.args.number c.args.line.now
    c.args.answer.now c.state.result.now _ c.line_changes-changes.result.now _ _
    (rw c.session.ensures at c.state.ensures.replays) c.line_changes-changes.ensures.made
    (c.as_deref.ensures.value ∙ c.in_ok-command.ensures) c.push_line.ensures.text c.push_line.ensures.reads_back
