use Rattle.reh_colors.proofs.LineLaws.{after_none, after_some}
use Rattle.reh_colors.proofs.shades.answer_of.Goals as goal

pub returns-in-Some : goal.returns-in-Some
returns-in-Some c = after_some c.args.line.now c.in-Some.colon c.in-Some.ensures

pub returns-in-None : goal.returns-in-None
returns-in-None c = after_none c.args.line.now c.in-None.ensures
