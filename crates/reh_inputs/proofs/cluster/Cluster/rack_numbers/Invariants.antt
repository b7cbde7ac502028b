-- Those of the bookies that are passed.
use Rattle.std.proofs.Common.{◌≡◌}
use Rattle.std.specs.List.{filter}
use Rattle.reh_census.specs.Striping.{range}
use Rattle.reh_inputs.specs.Cluster.{is_first_in_rack}
use Rattle.reh_inputs.proofs.cluster.Cluster.rack_numbers.Given as goal

abbrev pub invariant-loop-number : goal.invariant-loop-number
invariant-loop-number l = l.numbers.items ≡ filter (is_first_in_rack l.self.shown) (range 0 l.number)
