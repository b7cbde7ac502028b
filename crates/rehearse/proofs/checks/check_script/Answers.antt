-- The status is that of a check of some script, on the picture that was read.
use Rattle.rehearse.proofs.checks.check_script.Goals as goal

pub returns : goal.returns
returns c = record {
  picture = c.deref.result.now;
  state = c.in_ok-state.state;
  shown = c.in_ok-state.ensures;
  script = c.in_ok-status.ensures.0;
  status_is = c.in_ok-status.ensures.1;
}
