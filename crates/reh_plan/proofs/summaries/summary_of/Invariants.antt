-- What the first bookies are given.
use Rattle.std.proofs.Common.{◌≡◌, map}
use Rattle.std.specs.List.{range_with_len}
use Rattle.reh_plan.specs.Summaries.{share_of}
use Rattle.reh_plan.proofs.summaries.summary_of.Given as goal

abbrev pub invariant-loop-number : goal.invariant-loop-number
invariant-loop-number l = l.shares.items ≡ map (share_of l.plan) (range_with_len 0 l.number)
