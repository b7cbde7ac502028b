use Rattle.std.proofs.Common.{ap, arith}
use Rattle.std.specs.Prelude.{◌==◌}
use Rattle.reh_census.specs.declared.classes.Counted.{Counted}
use Rattle.reh_census.specs.Bookies.{is_flagged}
use Rattle.reh_census.specs.Copies.{left}
use Rattle.reh_rules.proofs.RangeTests.{counted-fits, some_count}
use Rattle.reh_rules.proofs.copies.entries_with.Goals as goal

pub overflow_add-entries : goal.overflow_add-entries
overflow_add-entries c =
    omega (
      arith,
      c.requires,
      c.loop-counted.invariant,
      c.count_if-entries.ensures,
      some_count (c.copies_left.result == c.args.copies) c.counted-item.result.count,
      ap (λ (x : Counted). x.count) c.counted-item.is,
      counted-fits c.args.census.now (λ x. x.count) (λ x. left (is_flagged c.args.stopped.now) x.class.known == c.args.copies) c.loop-counted.counted-index c.counted-item.result c.loop-counted-test.true,
    )
