use Rattle.std.proofs.Common.{ap, arith, cond, Bool}
use Rattle.reh_census.specs.declared.classes.Counted.{Counted}
use Rattle.reh_answer.specs.Facts.{is_nowhere}
use Rattle.reh_rules.proofs.RangeTests.{counted-fits, some_count}
use Rattle.reh_answer.proofs.counts.count_unreadable.Goals as goal

pub overflow_add-entries : goal.overflow_add-entries
overflow_add-entries c =
    omega (
      arith,
      c.requires,
      c.loop-counted.invariant,
      c.count_if-entries.ensures,
      ap (λ (is : Bool). cond is c.counted-item.result.count 0) c.is_nowhere.ensures,
      some_count (is_nowhere c.counted-item.result.class) c.counted-item.result.count,
      ap (λ (x : Counted). x.count) c.counted-item.is,
      counted-fits c.args.census.now (λ x. x.count) (λ (x : Counted). is_nowhere x.class) c.loop-counted.counted-index c.counted-item.result c.loop-counted-test.true,
    )
