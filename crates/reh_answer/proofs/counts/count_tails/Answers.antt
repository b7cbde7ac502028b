use Rattle.std.proofs.Common.{ap, arith, true}
use Rattle.reh_census.specs.declared.censuses.CountedTail.{CountedTail}
use Rattle.reh_rules.proofs.RangeTests.{counted-fits}
use Rattle.reh_answer.proofs.counts.count_tails.Goals as goal

pub overflow_add-ledgers : goal.overflow_add-ledgers
overflow_add-ledgers c =
    omega (
      arith,
      c.requires,
      c.loop-counted.invariant,
      ap (λ (x : CountedTail). x.count) c.counted-item.is,
      counted-fits c.args.tails.now (λ x. x.count) (λ (x : CountedTail). true) c.loop-counted.counted-index c.counted-item.result c.loop-counted-test.true,
    )
