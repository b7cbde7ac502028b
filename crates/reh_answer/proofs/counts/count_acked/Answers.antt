use Rattle.std.proofs.Common.{ap, arith, nat_le}
use Rattle.reh_census.specs.declared.classes.Counted.{Counted}
use Rattle.reh_rules.proofs.RangeTests.{counted-fits, some_count}
use Rattle.reh_answer.proofs.counts.count_acked.Goals as goal

pub overflow_add-entries : goal.overflow_add-entries
overflow_add-entries c =
    omega (
      arith,
      c.requires,
      c.loop-counted.invariant,
      c.count_if-entries.ensures,
      some_count (nat_le c.counted-item.result.class.ack_quorum c.args.most) c.counted-item.result.count,
      ap (λ (x : Counted). x.count) c.counted-item.is,
      counted-fits c.args.census.now (λ x. x.count) (λ (x : Counted). nat_le x.class.ack_quorum c.args.most) c.loop-counted.counted-index c.counted-item.result c.loop-counted-test.true,
    )
