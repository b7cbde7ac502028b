-- It is what those bytes show, with the ids of its ledgers.
use Rattle.std.proofs.Common.{refl}
use Rattle.reh_questions.proofs.inputs.of_bytes.Goals as goal

pub returns-clause-of : goal.returns-clause-of
returns-clause-of g bytes is = record { bytes = bytes; is_read = is; ids = g.in_ok-ids.ensures; kind_is = refl }
