use Rattle.reh_census.proofs.RuleLaws.{readable-is_kept, readable-kept}
use Rattle.reh_census.proofs.laws.readable_is_one_copy_kept.Goals as goal

pub returns-clause-one : goal.returns-clause-one
returns-clause-one c = readable-kept

pub returns-clause-kept : goal.returns-clause-kept
returns-clause-kept c = readable-is_kept
