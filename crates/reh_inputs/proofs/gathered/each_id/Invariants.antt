-- The ids of the inputs that are passed.
use Rattle.std.proofs.Common.{◌≡◌, take}
use Rattle.std.specs.List.{flat_map}
use Rattle.reh_inputs.specs.Gathered.{ids_in}
use Rattle.reh_inputs.specs.Inputs.{of_picture}
use Rattle.reh_inputs.proofs.gathered.each_id.Given as goal

abbrev pub invariant-loop-input : goal.invariant-loop-input
invariant-loop-input l = l.ids.keys ≡ flat_map (of_picture ids_in) (take l.input l.inputs)
