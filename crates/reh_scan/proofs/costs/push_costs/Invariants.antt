-- What there is to read for the fragments so far.
use Rattle.std.proofs.Common.{◌≡◌, ◌++◌, take}
use Rattle.reh_scan.specs.Costs.{costs_of}
use Rattle.reh_scan.proofs.costs.push_costs.Given as goal

abbrev pub invariant-loop-number : goal.invariant-loop-number
invariant-loop-number l = l.costs.items ≡ l.fn.costs.items ++ take l.number (costs_of l.metadata)
