use Rattle.std.proofs.Common.{ap, arith}
use Rattle.reh_census.specs.declared.censuses.CountedTail.{CountedTail}
use Rattle.reh_rules.proofs.RangeTests.{counted-fits, some_count}
use Rattle.reh_answer.proofs.counts.count_open.Goals as goal

pub overflow_add-ledgers : goal.overflow_add-ledgers
overflow_add-ledgers c =
    omega (
      arith,
      c.requires,
      c.loop-counted.invariant,
      c.count_if-ledgers.ensures,
      some_count c.counted-item.result.tail.is_open c.counted-item.result.count,
      ap (λ (x : CountedTail). x.count) c.counted-item.is,
      counted-fits c.args.tails.now (λ x. x.count) (λ (x : CountedTail). x.tail.is_open) c.loop-counted.counted-index c.counted-item.result c.loop-counted-test.true,
    )
