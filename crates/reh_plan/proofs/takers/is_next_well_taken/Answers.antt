-- The event is the next one, and is looked at in the state before it.
use Rattle.std.proofs.Common.{◌++◌, List, subst, take}
use Rattle.reh_types.specs.declared.moves.Event.{Event}
use Rattle.reh_plan.specs.Takers.{AreWellTaken}
use Rattle.reh_plan.specs.Workers.{may_work}
use Rattle.reh_plan.proofs.TakerLaws.{taken-next}
use Rattle.reh_plan.proofs.takers.is_next_well_taken.Goals as goal

pub returns-in-len1-up : goal.returns-in-len1-up
returns-in-len1-up c = λ well first.
    subst
    (λ (us : List Event).
    AreWellTaken (may_work c.args.workers.now.rules) c.args.racks.now c.args.session.now.opening
    (c.args.session.now.done ++ take 1 us))
    c.undone.ensures.events
    (taken-next (may_work c.args.workers.now.rules) c.args.racks.now c.args.session.now.opening c.state-state.result.now
    c.args.session.now.done c.undone.result.now c.event-item.result c.state-state.ensures.replays
    c.in-len1-up.len_at_least c.event-item.is (c.is_well_taken.ensures well) first)
