-- The numbers that are passed.
use Rattle.std.proofs.Common.{◌≡◌}
use Rattle.reh_census.specs.Striping.{range}
use Rattle.reh_waves.proofs.orders.numbers_of.Given as goal

abbrev pub invariant-loop-number : goal.invariant-loop-number
invariant-loop-number l = l.numbers.items ≡ range 0 l.number
