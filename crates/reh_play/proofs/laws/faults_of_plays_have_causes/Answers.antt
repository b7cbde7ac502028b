use Rattle.reh_play.specs.Players.{setting_by}
use Rattle.reh_play.proofs.EndLaws.{read_failed, long_script, break_has_cause}
use Rattle.reh_play.proofs.laws.faults_of_plays_have_causes.Goals as goal

pub returns-clause-read : goal.returns-clause-read
returns-clause-read g c = λ names.
    read_failed (setting_by g.C.Counter.goes g.C.Counter.scene g.P.Printer.prints names)

pub returns-clause-long : goal.returns-clause-long
returns-clause-long g c = λ names.
    long_script (setting_by g.C.Counter.goes g.C.Counter.scene g.P.Printer.prints names)

pub returns-clause-between : goal.returns-clause-between
returns-clause-between g c = λ names lines failed lost result x z old new breaks is.
    break_has_cause result lost breaks.0 is
