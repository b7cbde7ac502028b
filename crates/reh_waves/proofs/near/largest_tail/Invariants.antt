-- None of those that are passed is larger.
use Rattle.std.proofs.Common.{◌≤◌, All, take}
use Rattle.reh_waves.proofs.near.largest_tail.Given as goal

abbrev pub invariant-loop-counted : goal.invariant-loop-counted
invariant-loop-counted l = All (λ t. t.tail.size ≤ l.largest) (take l.counted-index l.tails)
