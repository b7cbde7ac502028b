-- The names that are passed are printable.
use Rattle.std.proofs.Common.{take}
use Rattle.reh_waves.specs.Json.{ArePrintable}
use Rattle.reh_waves.proofs.printable.are_printable.Given as goal

abbrev pub invariant-loop-name : goal.invariant-loop-name
invariant-loop-name l = ArePrintable (take l.name-index l.names)
