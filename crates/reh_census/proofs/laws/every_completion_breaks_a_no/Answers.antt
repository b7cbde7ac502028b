use Rattle.std.proofs.Common.{not}
use Rattle.reh_census.proofs.RuleLaws.{kept-best, kept-every, readable-best}
use Rattle.reh_census.proofs.laws.every_completion_breaks_a_no.Goals as goal

pub returns-clause-every : goal.returns-clause-every
returns-clause-every c = kept-every

pub returns-clause-only : goal.returns-clause-only
returns-clause-only c = λ keep stopped class each. each (λ b. not (stopped b))

pub returns-clause-kept : goal.returns-clause-kept
returns-clause-kept c = kept-best

pub returns-clause-readable : goal.returns-clause-readable
returns-clause-readable c = readable-best
