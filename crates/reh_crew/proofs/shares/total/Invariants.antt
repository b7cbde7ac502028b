-- All that there is to read for the lines so far.
use Rattle.std.proofs.Common.{◌≡◌, take}
use Rattle.reh_crew.specs.Shares.{total}
use Rattle.reh_crew.proofs.shares.total.Given as goal

abbrev pub invariant-loop-cost : goal.invariant-loop-cost
invariant-loop-cost l = l.total ≡ total (take l.cost-index l.costs)
