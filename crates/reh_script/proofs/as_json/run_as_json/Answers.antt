use Rattle.std.proofs.Common.{◌≡◌, true}
use Rattle.std.specs.Io.KnownBytes.{IsAtEnd}
use Rattle.reh_script.specs.AsJson.{end_text, lines_as_json}
use Rattle.reh_script.proofs.JsonRuns.{told_well}
use Rattle.reh_script.proofs.PrintedRuns.{in_time_grown}
use Rattle.reh_script.proofs.as_json.run_as_json.Goals as goal

pub returns-clause-prompt : goal.returns-clause-prompt
returns-clause-prompt g c =
    in_time_grown lines_as_json _ _ _ _ _ _ _ _ _ c.run_printing-end.ensures.prompt c.tell_end.ensures.grows

pub returns-clause-ended : goal.returns-clause-ended
returns-clause-ended g c =
    told_well (IsAtEnd (g.R.TextIn.remaining c.run_printing-end.new.script)) (end_text c.run_printing-end.result)
    c.run_printing-end.result c.tell_end.result (g.W.TextOut.contents c.run_printing-end.new.writer)
    (g.W.TextOut.contents c.tell_end.new.writer) c.tell_end.ensures.told c.run_printing-end.ensures.ended

pub returns-clause-finished : goal.returns-clause-finished
returns-clause-finished g c =
    told_well (g.R.TextIn.at_end c.run_printing-end.new.script ≡ true) (end_text c.run_printing-end.result)
    c.run_printing-end.result c.tell_end.result (g.W.TextOut.contents c.run_printing-end.new.writer)
    (g.W.TextOut.contents c.tell_end.new.writer) c.tell_end.ensures.told c.run_printing-end.ensures.finished
