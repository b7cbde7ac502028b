-- Those of the events that are passed.
use Rattle.std.proofs.Common.{◌≡◌, ◌≤◌, take}
use Rattle.std.specs.Prelude.{count_by}
use Rattle.reh_plan.specs.Summaries.{is_place_of}
use Rattle.reh_plan.proofs.summaries.places_of.Given as goal

abbrev pub invariant-loop-event : goal.invariant-loop-event
invariant-loop-event l = record {
  counted : l.count ≡ count_by (is_place_of l.bookie) (take l.event-index l.events);
  within : l.count ≤ l.event-index;
}
