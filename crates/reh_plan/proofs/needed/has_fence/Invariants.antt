-- None of those that are passed is a fence.
use Rattle.std.proofs.Common.{◌≡◌, false, take}
use Rattle.std.specs.List.{list_any}
use Rattle.reh_plan.specs.Needed.{is_fence}
use Rattle.reh_plan.proofs.needed.has_fence.Given as goal

abbrev pub invariant-loop-event : goal.invariant-loop-event
invariant-loop-event l = list_any (is_fence l.bookie l.id) (take l.event-index l.events) ≡ false
