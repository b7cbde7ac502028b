-- One ledger more.
use Rattle.std.proofs.Common.{◌∙◌, ℕ, List, length, map, sym, subst, take, take_all, arith}
use Rattle.std.proofs.lemmas.Iterator.Adapters.{YieldsList-from_vec}
use Rattle.std.proofs.lemmas.Iterator.Consumers.{YieldsList-end, YieldsList-turn}
use Rattle.std.proofs.lemmas.List.{length-map, map-id}
use Rattle.reh_census.specs.Bookies.{bookies_of, is_flagged}
use Rattle.reh_census.specs.Ledgers.{Ledger}
use Rattle.reh_against.specs.Weighed.{Weighs}
use Rattle.reh_against.specs.Worst.{alone}
use Rattle.reh_against.proofs.WeighLaws.{weighs-each}
use Rattle.reh_against.proofs.worst.Worst.of.Goals as goal

pub loop-ledger-init : goal.loop-ledger-init
loop-ledger-init c =
    c.new-worst.ensures (bookies_of c.args.stop.now.bookies.now) c.args.stop.now.question.now
    (is_flagged c.args.stop.now.stopped.now) c.args.stop.now.answer.now

pub bounds-ids-place : goal.bounds-ids-place
bounds-ids-place c =
    let given = c.into_iter-ledger-iterator.ensures.into_iter_gives in
    let turn =
    YieldsList-turn
    (YieldsList-from_vec {s = c.into_iter-ledger-iterator.result} c.args.ledgers.items given.0
    (given.1 ∙ c.args.ledgers.ok.0))
    c.loop-ledger.yielded c.loop-ledger.ledger-iterator c.loop-ledger.yielded_by c.next.result c.next.new.self c.in-Some.ledger
    c.in-Some.is c.next.ensures.steps in
    omega (arith, turn.0, c.loop-ledger.invariant.added, length-map c.loop-ledger.yielded alone, c.requires)

pub loop-ledger-preserved : goal.loop-ledger-preserved
loop-ledger-preserved c =
    let given = c.into_iter-ledger-iterator.ensures.into_iter_gives in
    let turn =
    YieldsList-turn
    (YieldsList-from_vec {s = c.into_iter-ledger-iterator.result} c.args.ledgers.items given.0
    (given.1 ∙ c.args.ledgers.ok.0))
    c.loop-ledger.yielded c.loop-ledger.ledger-iterator c.loop-ledger.yielded_by c.next.result c.next.new.self c.in-Some.ledger
    c.in-Some.is c.next.ensures.steps in
    weighs-each (bookies_of c.args.stop.now.bookies.now) c.args.stop.now.question.now (is_flagged c.args.stop.now.stopped.now)
    c.args.stop.now.answer.now c.args.ids.now c.loop-ledger.yielded c.loop-ledger.worst.added c.in-Some.ledger
    c.in_ok-parts.parts.items c.add.new.self (omega (arith, turn.0, c.requires))
    (c.loop-ledger.invariant.added ∙ length-map c.loop-ledger.yielded alone) c.in_ok-parts.ensures
    (c.in_ok-add.ensures.added (take (length c.loop-ledger.yielded) c.args.ids.now) (map alone c.loop-ledger.yielded)
    c.loop-ledger.invariant)

pub returns-clause-weighed : goal.returns-clause-weighed
returns-clause-weighed c =
    let given = c.into_iter-ledger-iterator.ensures.into_iter_gives in
    let all =
    YieldsList-end
    (YieldsList-from_vec {s = c.into_iter-ledger-iterator.result} c.args.ledgers.items given.0
    (given.1 ∙ c.args.ledgers.ok.0))
    c.loop-ledger.yielded c.loop-ledger.ledger-iterator c.loop-ledger.yielded_by c.next.result c.next.new.self
    c.in-None.is c.next.ensures.steps in
    subst (λ (ids : List ℕ).
    Weighs (bookies_of c.args.stop.now.bookies.now) c.args.stop.now.question.now (is_flagged c.args.stop.now.stopped.now)
    c.args.stop.now.answer.now ids (map alone c.args.ledgers.items) c.loop-ledger.worst)
    (take_all (length c.loop-ledger.yielded) c.args.ids.now (omega (arith, all.1, c.requires)))
    (subst (λ (gs : List Ledger).
    Weighs (bookies_of c.args.stop.now.bookies.now) c.args.stop.now.question.now (is_flagged c.args.stop.now.stopped.now)
    c.args.stop.now.answer.now (take (length c.loop-ledger.yielded) c.args.ids.now) (map alone gs)
    c.loop-ledger.worst)
    (sym (map-id c.loop-ledger.yielded) ∙ all.0) c.loop-ledger.invariant)
