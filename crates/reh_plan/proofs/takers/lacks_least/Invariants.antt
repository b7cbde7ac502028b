-- With none of those that are passed fewer write sets lack racks.
use Rattle.std.proofs.Common.{◌<◌, ◌≤◌, ℕ}
use Rattle.std.specs.Prelude.{IsTrue}
use Rattle.reh_plan.specs.Racks.{lacking}
use Rattle.reh_plan.specs.Takers.{could_take}
use Rattle.reh_plan.specs.Workers.{may_work}
use Rattle.reh_plan.proofs.takers.lacks_least.Given as goal

abbrev pub invariant-loop-number : goal.invariant-loop-number
invariant-loop-number l =
    (b : ℕ) → b < l.number → IsTrue (could_take (may_work l.workers.rules) l.state l.fragment b)
    → l.least ≤ lacking l.racks l.ledger.metadata l.fragment l.aim.index b
