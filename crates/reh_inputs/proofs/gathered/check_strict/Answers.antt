-- The first input that was made otherwise is told.
use Rattle.std.proofs.Common.{◌∙◌, arith, sym}
use Rattle.reh_inputs.specs.Gathered.{is_other}
use Rattle.reh_inputs.proofs.PlaceLaws.{no_position, position_is}
use Rattle.reh_inputs.proofs.gathered.check_strict.Goals as goal

pub returns-then-is_other-clause-fault : goal.returns-then-is_other-clause-fault
returns-then-is_other-clause-fault c =
    position_is (is_other c.args.strict) c.args.inputs.now c.loop-input.input c.index-inputs-input.result
    c.loop-input.invariant c.loop-input-test.true c.index-inputs-input.is (sym c.is_other.ensures ∙ c.if-is_other.true)

pub returns-clause-alike : goal.returns-clause-alike
returns-clause-alike c =
    no_position (is_other c.args.strict) c.args.inputs.now
    (λ k d less. c.loop-input.invariant k d (omega (arith, less, c.loop-input-test.false)))
