-- All ledgers were passed.
use Rattle.std.proofs.Common.{◌∙◌, All, List, subst, take_all}
use Rattle.std.proofs.lemmas.List.Elements.{All-more}
use Rattle.reh_model.specs.Cluster.{Ledger}
use Rattle.reh_plan.proofs.EndLaws.{IsFinished, all_done}
use Rattle.reh_plan.proofs.ends.has_unfinished.Goals as goal

pub loop-ledger-preserved : goal.loop-ledger-preserved
loop-ledger-preserved c =
    let finished : Ledger → Type 0 = IsFinished c.args.workers.now.rules c.args.state.now in
    All-more finished c.ledgers-ledger-items.result.now c.loop-ledger.ledger-index c.ledger-item.result
    c.loop-ledger-test.true c.loop-ledger.invariant
    (subst finished c.ledger-item.is record {
      filled = c.is_unfinished.ensures.filled c.if-is_unfinished.false;
      settled = c.is_unfinished.ensures.settled c.if-is_unfinished.false;
      unlocked = c.is_unfinished.ensures.unlocked c.if-is_unfinished.false;
      needed = c.is_unfinished.ensures.needed c.if-is_unfinished.false;
    })

pub returns : goal.returns
returns c = λ _.
    let ledgers : List Ledger = c.ledgers-ledger-items.result.now in
    let finished : Ledger → Type 0 = IsFinished c.args.workers.now.rules c.args.state.now in
    all_done c.args.workers.now.rules c.args.state.now
    (subst (λ (gs : List Ledger). All finished gs)
    (take_all c.loop-ledger.ledger-index ledgers c.loop-ledger-test.false ∙ c.ledgers-ledger-items.ensures.ledgers)
    c.loop-ledger.invariant)
