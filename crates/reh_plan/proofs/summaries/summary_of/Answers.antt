-- One bookie more, and then all.
use Rattle.std.proofs.Common.{◌≡◌, ◌∙◌, List, ℕ, length, map, ap, arith}
use Rattle.std.specs.List.{range_with_len}
use Rattle.std.proofs.lemmas.List.FromFn.{length-map-range_with_len}
use Rattle.reh_types.specs.declared.moves.Event.{Event}
use Rattle.reh_model.specs.Cluster.{Cluster}
use Rattle.reh_model.specs.Contents.{count_held}
use Rattle.reh_plan.specs.Summaries.{left_of, places_of, share_of, unreadable_of}
use Rattle.reh_plan.proofs.SummaryLaws.{held_before, share_more}
use Rattle.reh_plan.proofs.summaries.summary_of.Goals as goal

pub loop-number-preserved : goal.loop-number-preserved
loop-number-preserved c =
    let n : ℕ = c.loop-number.number in
    share_more c.args.plan.now n c.places_of.result c.count.result _ _ c.loop-number.shares.items c.push.new.self.items
    (c.places_of.ensures ∙ ap (λ (es : List Event). places_of es n) c.events.ensures)
    (c.count.ensures ∙ ap (λ (s : Cluster). count_held s.parts.held n) c.state-state.ensures)
    (held_before c.args.plan.now.opening c.args.held.now n _ c.requires.held (omega (arith, c.loop-number-test.true)))
    c.saturating_sub.ensures c.loop-number.invariant c.in_ok-push.ensures.items

pub returns : goal.returns
returns c =
    let size : length c.args.held.now ≡ length c.args.plan.now.opening.names =
    ap length c.requires.held
    ∙ length-map-range_with_len (λ bookie. count_held c.args.plan.now.opening.parts.held bookie) 0
    (length c.args.plan.now.opening.names) in
    let all : c.loop-number.number ≡ length c.args.plan.now.opening.names = omega (arith, size, c.loop-number-test.false, c.loop-number.auto.number-end) in
    record {
      shares =
          c.loop-number.invariant
          ∙ ap (λ k. map (share_of c.args.plan.now) (range_with_len 0 k)) all;
      left = c.count_left.ensures ∙ ap left_of c.state-state.ensures;
      unreadable = c.in_ok-count_unreadable.ensures ∙ ap unreadable_of c.state-state.ensures;
      full = c.says_full.ensures;
    }
