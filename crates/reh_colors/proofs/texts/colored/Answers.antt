use Rattle.std.proofs.Common.{◌∙◌, ap}
use Rattle.reh_colors.specs.Shades.{without_codes}
use Rattle.reh_colors.proofs.CodeLaws.{colored_stays}
use Rattle.reh_colors.proofs.LineLaws.{ends, goes_on}
use Rattle.reh_colors.proofs.texts.colored.Goals as goal

pub loop-line-preserved : goal.loop-line-preserved
loop-line-preserved c =
    goes_on _ _ _ c.in-Some.line.now c.in-Some.more.now c.loop-line.rest.now _ c.in-Some.ensures.lines c.in_ok-push_line.ensures c.in_ok-push.ensures.items c.loop-line.invariant

pub returns-clause-text : goal.returns-clause-text
returns-clause-text c = ends _ _ c.loop-line.rest.now _ c.in_default.ensures.lines c.in_ok-push_line-2.ensures c.loop-line.invariant

pub returns-clause-plain : goal.returns-clause-plain
returns-clause-plain c none =
    ap without_codes (ends _ _ c.loop-line.rest.now _ c.in_default.ensures.lines c.in_ok-push_line-2.ensures c.loop-line.invariant)
    ∙ colored_stays c.args.text.now none
