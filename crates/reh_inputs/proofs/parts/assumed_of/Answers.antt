-- The fault is so for either question.
use Rattle.std.proofs.lemmas.Result.{IfErr-weaker}
use Rattle.reh_inputs.proofs.parts.assumed_of.Goals as goal

pub returns-clause-fault : goal.returns-clause-fault
returns-clause-fault c =
    IfErr-weaker c.count_assumed.result _ _ (λ fault is. is c.args.strict) c.count_assumed.ensures.fault
