use Rattle.std.proofs.Common.{ap, arith, nat_le}
use Rattle.reh_census.specs.declared.censuses.CountedTail.{CountedTail}
use Rattle.reh_rules.proofs.RangeTests.{counted-fits, some_count}
use Rattle.reh_answer.proofs.counts.count_acked_tails.Goals as goal

pub overflow_add-ledgers : goal.overflow_add-ledgers
overflow_add-ledgers c =
    omega (
      arith,
      c.requires,
      c.loop-counted.invariant,
      c.count_if-ledgers.ensures,
      some_count (nat_le c.counted-item.result.tail.ack_quorum c.args.most) c.counted-item.result.count,
      ap (λ (x : CountedTail). x.count) c.counted-item.is,
      counted-fits c.args.tails.now (λ x. x.count) (λ (x : CountedTail). nat_le x.tail.ack_quorum c.args.most) c.loop-counted.counted-index c.counted-item.result c.loop-counted-test.true,
    )
