-- The status is that of what was said.
use Rattle.reh_questions.proofs.stops.stop_over.Goals as goal

pub returns : goal.returns
returns g c = record { said = c.in_ok-said.said; says = c.in_ok-said.ensures; status_is = c.in_ok-status.ensures }
