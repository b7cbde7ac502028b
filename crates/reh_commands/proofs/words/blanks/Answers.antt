use Rattle.std.proofs.Common.{◌∙◌, sym}
use Rattle.reh_commands.proofs.WordLaws.{none_found}
use Rattle.reh_commands.proofs.words.blanks.Goals as goal

pub returns-in-None-clause-count : goal.returns-in-None-clause-count
returns-in-None-clause-count c = none_found _ c.args.text.now (sym c.first_letter.ensures ∙ c.in-None.is)
