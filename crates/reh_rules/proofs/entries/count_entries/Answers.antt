use Rattle.std.proofs.Common.{ap, arith}
use Rattle.reh_census.specs.declared.classes.Counted.{Counted}
use Rattle.reh_census.specs.Bookies.{is_flagged}
use Rattle.reh_census.specs.Rules as rules
use Rattle.reh_rules.specs.Entries.{on_disk}
use Rattle.reh_rules.proofs.RangeTests.{counted-fits, some_count}
use Rattle.reh_rules.proofs.entries.count_entries.Goals as goal

pub overflow_add-lost : goal.overflow_add-lost
overflow_add-lost c =
    omega (
      arith,
      c.requires,
      c.loop-counted.invariant.lost,
      c.count_if-lost.ensures,
      some_count c.breaks_of-breaks.result.lost c.counted-item.result.count,
      ap (λ (x : Counted). x.count) c.counted-item.is,
      counted-fits c.args.census.now (λ x. x.count) (λ x. (rules.loses (is_flagged c.args.stopped.now)) x.class) c.loop-counted.counted-index c.counted-item.result c.loop-counted-test.true,
    )

pub overflow_add-may_be_lost : goal.overflow_add-may_be_lost
overflow_add-may_be_lost c =
    omega (
      arith,
      c.requires,
      c.loop-counted.invariant.may_be_lost,
      c.count_if-may_be_lost.ensures,
      some_count c.breaks_of-breaks.result.may_be_lost c.counted-item.result.count,
      ap (λ (x : Counted). x.count) c.counted-item.is,
      counted-fits c.args.census.now (λ x. x.count) (λ x. (rules.not_sure (rules.loses (is_flagged c.args.stopped.now)) (rules.may_lose (is_flagged c.args.stopped.now))) x.class) c.loop-counted.counted-index c.counted-item.result c.loop-counted-test.true,
    )

pub overflow_add-fallen : goal.overflow_add-fallen
overflow_add-fallen c =
    omega (
      arith,
      c.requires,
      c.loop-counted.invariant.fallen,
      c.count_if-fallen.ensures,
      some_count c.breaks_of-breaks.result.fallen c.counted-item.result.count,
      ap (λ (x : Counted). x.count) c.counted-item.is,
      counted-fits c.args.census.now (λ x. x.count) (λ x. (rules.falls c.args.keep (is_flagged c.args.stopped.now)) x.class) c.loop-counted.counted-index c.counted-item.result c.loop-counted-test.true,
    )

pub overflow_add-may_be_fallen : goal.overflow_add-may_be_fallen
overflow_add-may_be_fallen c =
    omega (
      arith,
      c.requires,
      c.loop-counted.invariant.may_be_fallen,
      c.count_if-may_be_fallen.ensures,
      some_count c.breaks_of-breaks.result.may_be_fallen c.counted-item.result.count,
      ap (λ (x : Counted). x.count) c.counted-item.is,
      counted-fits c.args.census.now (λ x. x.count) (λ x. (rules.not_sure (rules.falls c.args.keep (is_flagged c.args.stopped.now)) (rules.may_fall c.args.keep (is_flagged c.args.stopped.now))) x.class) c.loop-counted.counted-index c.counted-item.result c.loop-counted-test.true,
    )

pub overflow_add-on_disk : goal.overflow_add-on_disk
overflow_add-on_disk c =
    omega (
      arith,
      c.requires,
      c.loop-counted.invariant.on_disk,
      c.count_if-on_disk.ensures,
      some_count c.breaks_of-breaks.result.on_disk c.counted-item.result.count,
      ap (λ (x : Counted). x.count) c.counted-item.is,
      counted-fits c.args.census.now (λ x. x.count) (λ x. (on_disk c.args.keep c.args.takes_disk) x.class) c.loop-counted.counted-index c.counted-item.result c.loop-counted-test.true,
    )
