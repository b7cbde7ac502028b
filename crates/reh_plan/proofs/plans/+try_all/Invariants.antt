-- Each call has one event less to try.
use Rattle.std.proofs.Common.{length}
use Rattle.reh_plan.proofs.plans.+try_all.Given as goal

abbrev pub decreases-try_all : goal.decreases-try_all
decreases-try_all l = length l.events.now
