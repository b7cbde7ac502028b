-- Those that are passed.
use Rattle.std.proofs.Common.{◌≡◌, take, nat_le}
use Rattle.reh_census.specs.Counting.{count_tails_in}
use Rattle.reh_answer.proofs.counts.count_acked_tails.Given as goal

abbrev pub invariant-loop-counted : goal.invariant-loop-counted
invariant-loop-counted l = l.ledgers ≡ count_tails_in (take l.counted-index l.tails) (λ tail. nat_le tail.ack_quorum l.most)
