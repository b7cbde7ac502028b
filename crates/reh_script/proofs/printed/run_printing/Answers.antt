use Rattle.std.proofs.Common.{refl}
use Rattle.reh_play.specs.Players.{seated}
use Rattle.reh_script.proofs.Ends.{keeps_writer, piped_well}
use Rattle.reh_script.proofs.PrintedRuns.{prints_unopened, prints_played, prints_out}
use Rattle.reh_script.proofs.RunLaws.{text_writes}
use Rattle.reh_script.proofs.printed.run_printing.Goals as goal

pub returns-in_err-rehearsal-clause-runs : goal.returns-in_err-rehearsal-clause-runs
returns-in_err-rehearsal-clause-runs g c =
    prints_unopened g.N.Printer.prints _ _ _ _ _ _ _ _ _ c.in_err-rehearsal.field-0.0 c.in_err-rehearsal.ensures.opens
    c.from_residual.ensures.1 refl

pub returns-in_err-rehearsal-clause-write : goal.returns-in_err-rehearsal-clause-write
returns-in_err-rehearsal-clause-write g c =
    keeps_writer _ c.in_err-rehearsal.field-0.0 _ c.requires.writes
    (text_writes _ _ _ c.in_err-rehearsal.field-0.0 c.in_err-rehearsal.ensures.opens) c.from_residual.ensures.1

pub returns-clause-runs : goal.returns-clause-runs
returns-clause-runs g c =
    prints_played g.N.Printer.prints _ _ _ _ _ _ _ _ _ _ c.in_ok-rehearsal.rehearsal c.play_by-end.result
    (seated c.play_by-end.new.counter c.play_by-end.new.seat)
    c.in_ok-rehearsal.ensures.opens c.pipe_end.ensures.end c.play_by-end.ensures.plays

pub returns-clause-prompt : goal.returns-clause-prompt
returns-clause-prompt g c =
    prints_out g.N.Printer.prints _ _ _ _ _ _ _ _ c.in_ok-rehearsal.rehearsal c.in_ok-rehearsal.ensures.opens
    c.play_by-end.ensures.prompt

pub returns-clause-ended : goal.returns-clause-ended
returns-clause-ended g c = piped_well _ c.play_by-end.result _ c.pipe_end.ensures.end c.play_by-end.ensures.ended

pub returns-clause-finished : goal.returns-clause-finished
returns-clause-finished g c = piped_well _ c.play_by-end.result _ c.pipe_end.ensures.end c.play_by-end.ensures.finished

pub returns-clause-seen : goal.returns-clause-seen
returns-clause-seen g c = piped_well _ c.play_by-end.result _ c.pipe_end.ensures.end c.play_by-end.ensures.seen
