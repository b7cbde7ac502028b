-- The status goes by the faulty lines.
use Rattle.std.proofs.Common.{◌∙◌, ap}
use Rattle.rehearse.specs.Checks.{status_by}
use Rattle.rehearse.proofs.checks.say_checked.Goals as goal

pub returns-clause-status : goal.returns-clause-status
returns-clause-status c = c.status_by.ensures ∙ ap status_by c.in_ok-checked.ensures.counts
