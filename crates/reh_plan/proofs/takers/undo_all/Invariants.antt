-- Each undo leaves all events in their order.
use Rattle.std.proofs.Common.{◌≡◌, length}
use Rattle.reh_plan.proofs.TakerLaws.{all_events}
use Rattle.reh_plan.proofs.takers.undo_all.Given as goal

abbrev pub invariant-loop-session : goal.invariant-loop-session
invariant-loop-session l = record {
  opening : l.session.opening ≡ l.fn.session.opening;
  all : all_events l.session ≡ all_events l.fn.session;
}

abbrev pub decreases-loop-session : goal.decreases-loop-session
decreases-loop-session l = length l.session.done
