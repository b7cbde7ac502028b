use Rattle.reh_script.proofs.ChangeLaws.{tells_both}
use Rattle.reh_script.proofs.changes.WithChangesPrinterBook.print.Goals as goal

pub returns : goal.returns
returns c =
    tells_both c.push_changes.result c.args.names.now c.args.counter.now c.args.number c.args.line.now
    c.args.answer.now c.state.result.now c.line_changes-changes.result.now _ _ _
    (rw c.session.ensures at c.state.ensures.replays) c.line_changes-changes.ensures.made
    c.in_ok-push_answer.ensures c.push_changes.ensures
