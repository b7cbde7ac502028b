-- The events that are made again are the first ones, and were looked at.
use Rattle.std.proofs.Common.{◌≡◌, ◌-◌, ◌≤◌, length}
use Rattle.std.specs.Prelude.{IsTrue}
use Rattle.reh_plan.specs.Takers.{AreWellTaken}
use Rattle.reh_plan.specs.Workers.{may_work}
use Rattle.reh_plan.proofs.TakerLaws.{all_events}
use Rattle.reh_plan.proofs.takers.are_well_taken.Given as goal

abbrev pub invariant-loop-session : goal.invariant-loop-session
invariant-loop-session l = record {
  opening : l.session.opening ≡ l.fn.session.opening;
  all : all_events l.session ≡ all_events l.fn.session;
  few : length l.session.done ≤ length l.fn.session.done;
  count : l.count ≡ length l.fn.session.done;
  taken : IsTrue l.are → AreWellTaken (may_work l.workers.rules) l.racks l.session.opening l.session.done;
}

abbrev pub decreases-loop-session : goal.decreases-loop-session
decreases-loop-session l = l.count - length l.session.done
