use Rattle.reh_census_file.proofs.WordLaws.{word_count-after}
use Rattle.reh_census_file.proofs.words.word_count.Goals as goal

pub returns-in-len1-up : goal.returns-in-len1-up
returns-in-len1-up c = word_count-after c.args.rest.now c.space_count.result c.in-len1-up.len_at_least c.space_count.ensures.count
