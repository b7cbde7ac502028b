-- Those that are passed.
use Rattle.std.proofs.Common.{◌≡◌, take}
use Rattle.reh_census.specs.Counting.{count_tails_in}
use Rattle.reh_answer.proofs.counts.count_open.Given as goal

abbrev pub invariant-loop-counted : goal.invariant-loop-counted
invariant-loop-counted l = l.ledgers ≡ count_tails_in (take l.counted-index l.tails) (λ tail. tail.is_open)
