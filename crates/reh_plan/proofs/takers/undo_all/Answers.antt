-- An event that survives is undone.
use Rattle.std.proofs.Common.{◌≡◌, ◌<◌, ◌∙◌, List, ap, arith, length, subst, sym}
use Rattle.std.proofs.lemmas.Bool.Decides.{nat_tests}
use Rattle.reh_types.specs.declared.moves.Event.{Event}
use Rattle.reh_types.specs.declared.moves.Move.TheVariants.{Undo}
use Rattle.reh_model.specs.Session.{Session, moved_session}
use Rattle.reh_plan.proofs.TakerLaws.{all-undo, all_events, fewer-undo, undone_by}
use Rattle.reh_plan.proofs.takers.undo_all.Goals as goal

pub loop-session-preserved : goal.loop-session-preserved
loop-session-preserved c =
    let m : Session = c.loop-session.session in
    let here : 0 < length c.done.result.now = grind (arith, nat_tests) in
    let some : 0 < length m.done = subst (λ (es : List Event). 0 < length es) c.done.ensures here in
    let moved : c.undo-undone.new.self ≡ moved_session m Undo =
    undone_by m c.undo-undone.new.self _ some c.undo-undone.ensures.answers in
    record {
      opening = ap (λ (n : Session). n.opening) moved ∙ c.loop-session.invariant.opening;
      all = ap all_events moved ∙ all-undo m ∙ c.loop-session.invariant.all;
    }

pub loop-session-smaller : goal.loop-session-smaller
loop-session-smaller c =
    let m : Session = c.loop-session.session in
    let here : 0 < length c.done.result.now = grind (arith, nat_tests) in
    let some : 0 < length m.done = subst (λ (es : List Event). 0 < length es) c.done.ensures here in
    let moved : c.undo-undone.new.self ≡ moved_session m Undo =
    undone_by m c.undo-undone.new.self _ some c.undo-undone.ensures.answers in
    subst (λ (n : Session). length n.done < length m.done) (sym moved) (fewer-undo m some)
