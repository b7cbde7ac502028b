-- The status is that of the script that was read.
use Rattle.rehearse.proofs.checks.check_lines.Goals as goal

pub returns : goal.returns
returns c = (c.deref.result.now, c.in_ok-status.ensures.status)
