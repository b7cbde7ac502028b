use Rattle.std.specs.Prelude.{codes}
use Rattle.reh_play.proofs.Turns.{pushed}
use Rattle.reh_play.proofs.answers.push_answer.Goals as goal

pub returns-in-Hidden : goal.returns-in-Hidden
returns-in-Hidden g c = rw c.in-Hidden.is (pushed c.write-in-Hidden.result c.args.number _ _ _ (codes "not in a drill\n") c.in_ok-push_number.ensures c.write-in-Hidden.ensures.bytes)
