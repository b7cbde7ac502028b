use Rattle.reh_lines.proofs.LinesLemmas.{lines_some, lines_none}
use Rattle.reh_lines.proofs.inputs.first_line.Goals as goal

pub returns-in-Some-clause-lines : goal.returns-in-Some-clause-lines
returns-in-Some-clause-lines c = lines_some _ _ c.requires c.in-Some.ensures

pub returns-in-None-clause-lines : goal.returns-in-None-clause-lines
returns-in-None-clause-lines c = lines_none _ c.requires c.in-None.ensures
