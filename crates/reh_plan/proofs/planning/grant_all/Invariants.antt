-- The plan goes on by work alone.
use Rattle.reh_plan.specs.Plans.{Works}
use Rattle.reh_plan.proofs.planning.grant_all.Given as goal

abbrev pub invariant-loop-place : goal.invariant-loop-place
invariant-loop-place l = Works l.workers.rules l.fn.plan l.plan
