-- What is left to come to, from the next line on.
use Rattle.std.proofs.Common.{◌≡◌, ◌+◌, drop}
use Rattle.reh_crew.specs.Shares.{lines_to}
use Rattle.reh_crew.proofs.shares.lines_to.Given as goal

abbrev pub invariant-loop-count : goal.invariant-loop-count
invariant-loop-count l = l.count + lines_to l.left (drop l.count l.costs) ≡ lines_to l.much l.costs
