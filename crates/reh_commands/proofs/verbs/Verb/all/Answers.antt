use Rattle.reh_commands.proofs.PrintLaws.{found}
use Rattle.reh_commands.proofs.verbs.Verb.all.Goals as goal

pub returns-clause-each : goal.returns-clause-each
returns-clause-each c v = found v
