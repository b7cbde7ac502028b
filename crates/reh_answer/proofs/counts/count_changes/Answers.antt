use Rattle.std.proofs.Common.{ap, arith}
use Rattle.reh_census.specs.Bookies.{bookies_of, is_flagged}
use Rattle.reh_answer.specs.Facts.{has_to_change}
use Rattle.reh_census.specs.declared.censuses.CountedTail.{CountedTail}
use Rattle.reh_rules.proofs.RangeTests.{counted-fits, some_count}
use Rattle.reh_answer.proofs.counts.count_changes.Goals as goal

pub overflow_add-ledgers : goal.overflow_add-ledgers
overflow_add-ledgers c =
    omega (
      arith,
      c.requires,
      c.loop-counted.invariant,
      c.count_if-ledgers.ensures,
      some_count c.has_to_change-changes.result c.counted-item.result.count,
      ap (λ (x : CountedTail). x.count) c.counted-item.is,
      counted-fits c.args.tails.now (λ x. x.count) (λ x. (has_to_change (bookies_of c.args.bookies.now) (is_flagged c.args.stopped.now)) x.tail) c.loop-counted.counted-index c.counted-item.result c.loop-counted-test.true,
    )
