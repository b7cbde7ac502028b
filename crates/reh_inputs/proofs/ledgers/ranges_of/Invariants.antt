-- The ranges that are passed.
use Rattle.std.proofs.Common.{◌≡◌, map, take}
use Rattle.reh_inputs.specs.Ledgers.{range_of}
use Rattle.reh_inputs.proofs.ledgers.ranges_of.Given as goal

abbrev pub invariant-loop-range : goal.invariant-loop-range
invariant-loop-range l = l.copy.items ≡ map range_of (take l.range-index l.ranges)
