-- The task and the lock that go are the only differences.
use Rattle.std.proofs.Common.{◌∙◌, ◌++◌, ◌∷◌, [], ap, List, None}
use Rattle.reh_types.specs.declared.changes.Change.TheVariants.{Task, Lock}
use Rattle.reh_types.specs.declared.moves.Event.TheVariants.{Finish}
use Rattle.reh_model.specs.Places.{Change}
use Rattle.reh_model.proofs.DeltaLaws.{finish_delta}
use Rattle.reh_step.proofs.RecordLaws.{decided}
use Rattle.reh_step.proofs.records.finish.Goals as goal

pub returns : goal.returns
returns c =
    let found = c.in_ok-found.ensures in
    let k = c.in_ok-found.found.place in
    decided c.args.state.now (Finish c.args.worker c.args.ledger) _ c.of.result found.0
    (c.of.ensures ∙ c.in_ok-push-2.ensures
    ∙ ap (λ (cs : List Change). cs ++ Lock k None ∷ [])
    (c.in_ok-push.ensures ∙ ap (λ (cs : List Change). cs ++ Task k None ∷ []) c.in_ok-list.ensures.items))
    (finish_delta c.args.state.now c.args.worker c.args.ledger k found.1.well_formed found.1.place found.0)
