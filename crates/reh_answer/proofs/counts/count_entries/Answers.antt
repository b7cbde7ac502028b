use Rattle.std.proofs.Common.{ap, arith, true}
use Rattle.reh_census.specs.declared.classes.Counted.{Counted}
use Rattle.reh_rules.proofs.RangeTests.{counted-fits}
use Rattle.reh_answer.proofs.counts.count_entries.Goals as goal

pub overflow_add-entries : goal.overflow_add-entries
overflow_add-entries c =
    omega (
      arith,
      c.requires,
      c.loop-counted.invariant,
      ap (λ (x : Counted). x.count) c.counted-item.is,
      counted-fits c.args.census.now (λ x. x.count) (λ (x : Counted). true) c.loop-counted.counted-index c.counted-item.result c.loop-counted-test.true,
    )
