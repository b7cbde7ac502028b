-- There is no state.
use Rattle.reh_run_json.proofs.answers.add_answer.Goals as goal

pub returns-in-Hidden : goal.returns-in-Hidden
returns-in-Hidden c = rw c.in-Hidden.is c.add_text.ensures
