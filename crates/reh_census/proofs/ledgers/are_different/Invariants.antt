-- None of those that are passed comes twice.
use Rattle.std.proofs.Common.{take}
use Rattle.reh_census.specs.Copies.{EachOnce}
use Rattle.reh_census.proofs.ledgers.are_different.Given as goal

abbrev pub invariant-loop-index : goal.invariant-loop-index
invariant-loop-index l = EachOnce (take l.index l.names)
