use Rattle.std.proofs.Common.{sym, ◌∙◌, take, drop, length, ◌-◌, ◌+◌}
use Rattle.reh_census_file.proofs.LineLaws.{parts_of-none, parts_of-some, parts_of-some_part}
use Rattle.reh_census_file.proofs.reading.next_line.Goals as goal

pub returns-in_err-end-clause-parts : goal.returns-in_err-end-clause-parts
returns-in_err-end-clause-parts c = rw c.from_residual.ensures (parts_of-none c.args.text.now (sym c.line_len.ensures ∙ c.in_err-end.was))

pub returns-clause-parts : goal.returns-clause-parts
returns-clause-parts c = parts_of-some c.args.text.now c.in_ok-end.end (sym c.line_len.ensures ∙ c.in_ok-end.was)

pub returns-clause-some : goal.returns-clause-some
returns-clause-some c = parts_of-some_part (take (length c.args.text.now - (c.in_ok-end.end + 1)) (drop (c.in_ok-end.end + 1) c.args.text.now))
