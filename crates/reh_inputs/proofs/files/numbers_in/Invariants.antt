-- The numbers of the bookies that are passed.
use Rattle.std.proofs.Common.{◌≡◌, map, take}
use Rattle.reh_inputs.specs.United.{number_of}
use Rattle.reh_inputs.proofs.files.numbers_in.Given as goal

abbrev pub invariant-loop-bookie : goal.invariant-loop-bookie
invariant-loop-bookie l = l.numbers.items ≡ map (number_of l.names) (take l.bookie l.named)
