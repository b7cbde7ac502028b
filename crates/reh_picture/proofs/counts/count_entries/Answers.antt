-- What one bookie more holds is added.
use Rattle.std.proofs.Common.{◌+◌, sym, ◌∙◌, arith}
use Rattle.reh_model.specs.Contents.{count_held}
use Rattle.reh_picture.proofs.CountsLemmas.{sum_by-range_more}
use Rattle.reh_picture.proofs.counts.count_entries.Goals as goal

pub loop-i-preserved : goal.loop-i-preserved
loop-i-preserved c = record {
  sum = (λ k. c.loop-i.invariant.sum k + c.count.ensures k)
      ∙ sym (sum_by-range_more (count_held c.args.state.now.parts.held) c.loop-i.i);
  small = omega (arith, c.loop-i.invariant.small);
}
