-- What the files judged is too much, or so it is together with what was judged of the pictures.
use Rattle.std.proofs.Common.{fold}
use Rattle.reh_inputs.specs.Renumbered.{judged_by, with_judged}
use Rattle.reh_inputs.proofs.JudgedLaws.{few-other}
use Rattle.reh_inputs.proofs.gathered.judged_with.Goals as goal

pub returns-in_default-clause-fault : goal.returns-in_default-clause-fault
returns-in_default-clause-fault c = λ are.
    c.in_default.ensures.too_many (few-other c.args.own (fold with_judged (judged_by 0 0) c.args.inputs.now) are)
