-- The inputs that are passed.
use Rattle.std.proofs.Common.{All, take}
use Rattle.reh_inputs.specs.Empties.{EmptiesHoldNothing}
use Rattle.reh_inputs.proofs.gathered.check_inputs.Given as goal

abbrev pub invariant-loop-input : goal.invariant-loop-input
invariant-loop-input l = All EmptiesHoldNothing (take l.input l.inputs)
