-- None of the inputs so far was made otherwise.
use Rattle.std.proofs.Common.{◌≡◌, ◌<◌, ℕ, false, get_or}
use Rattle.reh_inputs.specs.Gathered.{is_other}
use Rattle.reh_inputs.specs.declared.inputs.Input.{Input}
use Rattle.reh_inputs.proofs.gathered.check_strict.Given as goal

abbrev pub invariant-loop-input : goal.invariant-loop-input
invariant-loop-input l = (k : ℕ) (d : Input) → k < l.input → is_other l.strict (get_or l.inputs k d) ≡ false
