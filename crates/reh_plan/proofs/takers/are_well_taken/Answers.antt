-- In the end the same events survive.
use Rattle.std.proofs.Common.{◌≡◌, List, ap, arith, length, subst}
use Rattle.reh_types.specs.declared.moves.Event.{Event}
use Rattle.reh_model.specs.Cluster.{Cluster}
use Rattle.reh_model.specs.Session.{Session}
use Rattle.reh_plan.specs.Takers.{AreWellTaken}
use Rattle.reh_plan.specs.Workers.{may_work}
use Rattle.reh_plan.proofs.TakerLaws.{same_done}
use Rattle.reh_plan.proofs.takers.are_well_taken.Goals as goal

pub returns-clause-done : goal.returns-clause-done
returns-clause-done c =
    let m : Session = c.loop-session.session in
    let now : length c.done.result.now ≡ length m.done = ap (λ (es : List Event). length es) c.done.ensures in
    same_done m c.args.session.now c.loop-session.invariant.all
    (omega (arith, now, c.loop-session-test.false, c.loop-session.invariant.few, c.loop-session.invariant.count))

pub returns-clause-taken : goal.returns-clause-taken
returns-clause-taken c = λ are.
    let m : Session = c.loop-session.session in
    let now : length c.done.result.now ≡ length m.done = ap (λ (es : List Event). length es) c.done.ensures in
    let same : m.done ≡ c.args.session.now.done =
    same_done m c.args.session.now c.loop-session.invariant.all
    (omega (arith, now, c.loop-session-test.false, c.loop-session.invariant.few, c.loop-session.invariant.count)) in
    subst
    (λ (s : Cluster). AreWellTaken (may_work c.args.workers.now.rules) c.args.racks.now s c.args.session.now.done)
    c.loop-session.invariant.opening
    (subst (λ (es : List Event). AreWellTaken (may_work c.args.workers.now.rules) c.args.racks.now m.opening es) same
    (c.loop-session.invariant.taken are))
