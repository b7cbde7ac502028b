use Rattle.std.proofs.Common.{sym, ◌∙◌}
use Rattle.reh_colors.proofs.LineLaws.{first_ended, one_line}
use Rattle.reh_colors.proofs.texts.cut_line.Goals as goal

pub returns-in_err-end-clause-lines : goal.returns-in_err-end-clause-lines
returns-in_err-end-clause-lines c =
    rw c.from_residual.ensures (one_line c.args.text.now (sym c.line_len.ensures ∙ c.in_err-end.was))

pub returns-clause-lines : goal.returns-clause-lines
returns-clause-lines c = first_ended c.args.text.now c.in_ok-end.end (sym c.line_len.ensures ∙ c.in_ok-end.was)
