use Rattle.std.proofs.Common.{ap, arith, cond, ℕ, List, length, nat_lt}
use Rattle.reh_census.specs.declared.classes.Counted.{Counted}
use Rattle.reh_rules.proofs.RangeTests.{counted-fits, some_count}
use Rattle.reh_answer.proofs.counts.count_unknown.Goals as goal

pub overflow_add-entries : goal.overflow_add-entries
overflow_add-entries c =
    omega (
      arith,
      c.requires,
      c.loop-counted.invariant,
      c.count_if-entries.ensures,
      ap (λ (names : List ℕ). cond (nat_lt 0 (length names)) c.counted-item.result.count 0) c.as_slice.ensures,
      some_count (nat_lt 0 (length c.counted-item.result.class.untold)) c.counted-item.result.count,
      ap (λ (x : Counted). x.count) c.counted-item.is,
      counted-fits c.args.census.now (λ x. x.count) (λ (x : Counted). nat_lt 0 (length x.class.untold)) c.loop-counted.counted-index c.counted-item.result c.loop-counted-test.true,
    )
