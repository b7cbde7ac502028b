use Rattle.reh_census.proofs.RuleLaws.{any-completion, completion-each}
use Rattle.reh_census.proofs.laws.completions_are_between.Goals as goal

pub returns-clause-between : goal.returns-clause-between
returns-clause-between c = any-completion

pub returns-clause-each : goal.returns-clause-each
returns-clause-each c = completion-each
