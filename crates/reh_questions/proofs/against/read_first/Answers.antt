-- It is under way by the line that was read.
use Rattle.reh_questions.proofs.against.read_first.Goals as goal

pub returns : goal.returns
returns c = (c.deref.result.now, c.in_ok-again.ensures)
