-- The first of the bookies are lost, and no other.
use Rattle.reh_types.specs.Sets as set
use Rattle.reh_plan.specs.Plans.{Loses, losses_of}
use Rattle.reh_plan.proofs.PlanLaws.{below}
use Rattle.reh_plan.proofs.planning.lose_all.Given as goal

abbrev pub invariant-loop-number : goal.invariant-loop-number
invariant-loop-number l = Loses l.fn.plan (below l.lost l.number) (losses_of l.fn.plan.state (set.contains l.lost) l.number) l.plan
