use Rattle.std.proofs.Common.{sym, ◌∙◌}
use Rattle.reh_census_file.specs.Reading.{words_after}
use Rattle.reh_census_file.proofs.BodyLaws.{last_at-more}
use Rattle.reh_census_file.proofs.reading.check_end.Goals as goal

pub returns-else-is_empty : goal.returns-else-is_empty
returns-else-is_empty c = last_at-more c.args.lines c.args.draft.now (words_after c.args.words.now) c.args.rest.now c.in_default.ensures (sym c.is_empty.ensures ∙ c.if-is_empty.false)
