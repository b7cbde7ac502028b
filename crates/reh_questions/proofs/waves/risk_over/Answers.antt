-- It is the answer that was written.
use Rattle.reh_questions.proofs.waves.risk_over.Goals as goal

pub returns : goal.returns
returns g c = (c.in_ok-noted.noted, c.in_ok-noted.ensures)
