use Rattle.reh_play.specs.Players.{setting_by}
use Rattle.reh_play.proofs.EndLaws.{well_unfailed, well_whole}
use Rattle.reh_play.proofs.laws.plays_that_end_well_are_whole.Goals as goal

pub returns-clause-unfailed : goal.returns-clause-unfailed
returns-clause-unfailed g c = λ names.
    well_unfailed (setting_by g.C.Counter.goes g.C.Counter.scene g.P.Printer.prints names)

pub returns-clause-whole : goal.returns-clause-whole
returns-clause-whole g c = λ names.
    well_whole (setting_by g.C.Counter.goes g.C.Counter.scene g.P.Printer.prints names)
