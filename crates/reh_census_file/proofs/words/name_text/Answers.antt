use Rattle.std.proofs.Common.{sym, ◌∙◌}
use Rattle.reh_census_file.proofs.WordLaws.{is_name-IsUtf8}
use Rattle.reh_census_file.proofs.words.name_text.Goals as goal

pub returns-in-Err : goal.returns-in-Err
returns-in-Err c = absurd (c.in-Err.ensures.cases.0 (is_name-IsUtf8 c.args.word.now (sym c.is_name.ensures ∙ c.if-not-is_name.false)))
