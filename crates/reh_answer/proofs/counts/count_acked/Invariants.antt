-- Those that are passed.
use Rattle.std.proofs.Common.{◌≡◌, take, nat_le}
use Rattle.reh_census.specs.Counting.{count_in}
use Rattle.reh_answer.proofs.counts.count_acked.Given as goal

abbrev pub invariant-loop-counted : goal.invariant-loop-counted
invariant-loop-counted l = l.entries ≡ count_in (take l.counted-index l.census) (λ class. nat_le class.ack_quorum l.most)
