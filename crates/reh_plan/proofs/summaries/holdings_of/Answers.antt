-- One bookie more.
use Rattle.std.proofs.Common.{◌≡◌, ◌∙◌, length, ap, arith}
use Rattle.std.proofs.lemmas.List.FromFn.{length-map-range_with_len}
use Rattle.reh_model.specs.Contents.{count_held}
use Rattle.reh_plan.proofs.SummaryLaws.{held_more}
use Rattle.reh_plan.proofs.summaries.holdings_of.Goals as goal

pub loop-number-preserved : goal.loop-number-preserved
loop-number-preserved c =
    held_more c.args.state.now c.loop-number.number c.count.result c.loop-number.held.items c.push.new.self.items
    c.count.ensures c.loop-number.invariant c.in_ok-push.ensures.items

pub returns-clause-few : goal.returns-clause-few
returns-clause-few c =
    let size : length c.loop-number.held.items ≡ c.loop-number.number =
    ap length c.loop-number.invariant
    ∙ length-map-range_with_len (λ bookie. count_held c.args.state.now.parts.held bookie) 0 c.loop-number.number in
    omega (arith, size, c.len-number-end.ensures.count, c.len-number-end.ensures.limit, c.loop-number.auto.number-end)
