use Rattle.reh_play.specs.Players.{setting_by}
use Rattle.reh_play.proofs.Enough.{plays_nothing}
use Rattle.reh_play.proofs.plays.play_on_by.Goals as goal

pub returns-in_err-hand-clause-plays : goal.returns-in_err-hand-clause-plays
returns-in_err-hand-clause-plays g c =
    plays_nothing
    (setting_by g.C.Counter.goes g.C.Counter.scene g.P.Printer.prints c.args.names.now) _ _ _ _ _ _ _ c.from_residual.ensures.1
    c.requires.reads
