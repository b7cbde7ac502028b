-- The ledgers of the inputs that are passed.
use Rattle.std.proofs.Common.{◌≡◌, take}
use Rattle.std.specs.List.{flat_map}
use Rattle.reh_inputs.specs.Gathered.{ledgers_in}
use Rattle.reh_inputs.specs.Inputs.{of_picture}
use Rattle.reh_inputs.proofs.parts.ledgers_of.Given as goal

abbrev pub invariant-loop-input : goal.invariant-loop-input
invariant-loop-input l = l.ledgers.items ≡ flat_map (of_picture (ledgers_in l.names l.reading)) (take l.input l.inputs)
