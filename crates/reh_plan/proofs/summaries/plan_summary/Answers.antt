-- The parts, one after another.
use Rattle.std.proofs.Common.{◌≡◌, ◌∙◌, ◌++◌, ap}
use Rattle.std.specs.Prelude.{flat_map, length}
use Rattle.reh_model.specs.Cluster.{Cluster}
use Rattle.reh_plan.specs.Summaries.{left_text, rest_text, share_text}
use Rattle.reh_plan.proofs.summaries.plan_summary.Goals as goal

pub returns : goal.returns
returns c =
    let p = c.args.planned.now in
    let names : c.names.result.now ≡ p.plan.state.names =
    c.names.ensures.names ∙ ap (λ (s : Cluster). s.names) c.state.ensures in
    c.in_ok-push_rest.ensures
    ∙ (λ i. (c.in_ok-push_left.ensures
    ∙ (λ j. (c.in_ok-text.ensures ∙ (λ k. flat_map (share_text (names k)) (c.deref.ensures.value k))) j
    ++ left_text p.summary.left (c.deref-2.ensures.value j))) i ++ rest_text p.summary (length (c.deref-3.ensures.value i)))
