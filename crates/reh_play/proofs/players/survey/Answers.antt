use Rattle.std.proofs.Common.{Ok}
use Rattle.reh_commands.specs.declared.commands.Command.TheVariants.{Survey}
use Rattle.reh_play.proofs.Turns.{without_ticket, begins_survey}
use Rattle.reh_play.proofs.players.survey.Goals as goal

pub returns-in-Err-clause-err : goal.returns-in-Err-clause-err
returns-in-Err-clause-err g c =
    without_ticket g.C.Counter.goes g.C.Counter.scene _ (Ok Survey) _ _ _
    (begins_survey g.C.Counter.goes g.C.Counter.scene _)
