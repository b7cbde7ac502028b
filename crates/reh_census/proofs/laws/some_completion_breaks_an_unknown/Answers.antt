use Rattle.reh_census.proofs.RuleLaws.{kept-some, kept-worst, readable-worst}
use Rattle.reh_census.proofs.laws.some_completion_breaks_an_unknown.Goals as goal

pub returns-clause-some : goal.returns-clause-some
returns-clause-some c = kept-some

pub returns-clause-kept : goal.returns-clause-kept
returns-clause-kept c = kept-worst

pub returns-clause-readable : goal.returns-clause-readable
returns-clause-readable c = readable-worst
