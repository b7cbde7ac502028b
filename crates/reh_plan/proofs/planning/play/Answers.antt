-- What the steps come to.
use Rattle.std.proofs.Common.{◌∙◌, List, Bool, ap, subst}
use Rattle.reh_model.specs.Cluster.{Cluster}
use Rattle.reh_plan.specs.Ends.{AreAmong, recovering}
use Rattle.reh_plan.proofs.planning.play.Goals as goal

pub returns-clause-played : goal.returns-clause-played
returns-clause-played c = record {
  lost = c.lose_all.new.plan;
  loses = c.in_ok-lose_all.ensures;
  repaired = c.in_ok-left.ensures.repaired;
  harmless =
      subst (λ (s : Cluster). AreAmong (recovering s) (recovering c.args.plan.now.state)) c.state-2.ensures
      (subst (λ (flags : List Bool). AreAmong (recovering c.state-2.result.now) flags)
      (c.deref.ensures.value ∙ c.in_ok-recovering.ensures ∙ ap recovering c.state.ensures) c.in_ok-check_harmless.ensures);
}
