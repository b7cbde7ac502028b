-- Nothing is assumed in the inputs that are passed.
use Rattle.std.proofs.Common.{◌≡◌, false, take}
use Rattle.std.specs.List.{list_any}
use Rattle.reh_inputs.specs.Gathered.{is_assumed_in}
use Rattle.reh_inputs.proofs.parts.is_assumed_in_any.Given as goal

abbrev pub invariant-loop-input : goal.invariant-loop-input
invariant-loop-input l = list_any is_assumed_in (take l.input-index l.inputs) ≡ false
