-- One move more has its reply; where all have, no swap of the run loses an entry.
use Rattle.std.proofs.Common.{arith}
use Rattle.std.proofs.lemmas.Grind.{common_steps}
use Rattle.std.proofs.lemmas.List.{take_all}
use Rattle.reh_model.specs.Session.{Run}
use Rattle.reh_model.proofs.SessionLaws.{Run-next}
use Rattle.reh_model.proofs.SwapLaws.{safe_run}
use Rattle.reh_session.proofs.Keeps.{kept_safe, run_safe}
use Rattle.reh_session.proofs.sessions.Session.run.Goals as goal

pub loop-step-preserved : goal.loop-step-preserved
loop-step-preserved c = record {
  told =
      rw (rw c.unwrap.ensures at c.push.ensures.items)
      (Run-next _ _ _ _ _ _ c.step-item.result _ c.loop-step-test.true c.step-item.is c.loop-step.invariant.told
      c.perform-reply.ensures.answers);
  count = grind (arith, common_steps);
  room = omega arith;
}

pub returns-in_err-replies-clause-lasting : goal.returns-in_err-replies-clause-lasting
returns-in_err-replies-clause-lasting c = kept_safe c.self.invariant _ c.self.view_is

pub returns-clause-safe : goal.returns-clause-safe
returns-clause-safe c =
    let told : Run c.args.self.now c.args.moves.now c.loop-step.replies.items c.loop-step.self =
    rw (take_all c.loop-step.step-index c.args.moves.now (omega arith)) at c.loop-step.invariant.told in
    safe_run c.args.self.now c.args.moves.now c.loop-step.replies.items c.loop-step.self told

pub returns-clause-lasting : goal.returns-clause-lasting
returns-clause-lasting c =
    let told : Run c.args.self.now c.args.moves.now c.loop-step.replies.items c.loop-step.self =
    rw (take_all c.loop-step.step-index c.args.moves.now (omega arith)) at c.loop-step.invariant.told in
    run_safe c.self.invariant _ c.self.view_is c.loop-step.self c.args.moves.now c.loop-step.replies.items told
