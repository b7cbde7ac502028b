-- The plan goes on by work alone.
use Rattle.std.proofs.Common.{◌≡◌}
use Rattle.reh_plan.specs.Plans.{Works}
use Rattle.reh_plan.proofs.planning.work_all.Given as goal

abbrev pub invariant-loop-place : goal.invariant-loop-place
invariant-loop-place l = record {
  works : Works l.fn.workers.rules l.fn.plan l.plan;
  rules : l.workers.rules ≡ l.fn.workers.rules;
}
