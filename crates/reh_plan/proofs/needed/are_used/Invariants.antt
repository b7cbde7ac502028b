-- Those that are passed are used.
use Rattle.std.proofs.Common.{◌≡◌, drop}
use Rattle.reh_plan.specs.Needed.{are_used}
use Rattle.reh_plan.proofs.needed.are_used.Given as goal

abbrev pub invariant-loop-number : goal.invariant-loop-number
invariant-loop-number l = are_used l.events ≡ are_used (drop l.number l.events)
