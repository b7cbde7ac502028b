-- The first bookies are counted.
use Rattle.std.proofs.Common.{◌≡◌, map}
use Rattle.std.specs.List.{range_with_len}
use Rattle.reh_model.specs.Contents.{count_held}
use Rattle.reh_plan.proofs.summaries.holdings_of.Given as goal

abbrev pub invariant-loop-number : goal.invariant-loop-number
invariant-loop-number l =
    l.held.items ≡ map (λ bookie. count_held l.state.parts.held bookie) (range_with_len 0 l.number)
