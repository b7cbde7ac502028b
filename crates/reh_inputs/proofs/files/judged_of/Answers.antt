-- What the inputs that are passed and one more judged is too much already.
use Rattle.reh_inputs.specs.Renumbered.{judged_by}
use Rattle.reh_inputs.proofs.JudgedLaws.{few-more}
use Rattle.reh_inputs.proofs.files.judged_of.Goals as goal

pub returns-in_err-judged-clause-too_many : goal.returns-in_err-judged-clause-too_many
returns-in_err-judged-clause-too_many c =
    rw c.from_residual.ensures
    (λ are.
    c.in_err-judged.ensures.too_many
    (few-more (judged_by 0 0) c.loop-input.judged c.args.inputs.now c.loop-input.input-index c.input-item.result
    c.loop-input-test.true c.input-item.is c.loop-input.invariant are))
