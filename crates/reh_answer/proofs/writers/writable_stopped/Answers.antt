use Rattle.std.proofs.Common.{ℕ, Bool, cond, ap, arith}
use Rattle.std.specs.Prelude.{◌&&◌}
use Rattle.reh_census.specs.Bookies.{bookies_of, is_flagged, is_writable, none}
use Rattle.reh_census.proofs.RangeLaws.{count-range_more}
use Rattle.reh_rules.proofs.RangeTests.{some_count}
use Rattle.reh_answer.proofs.writers.writable_stopped.Goals as goal

pub overflow_add-count : goal.overflow_add-count
overflow_add-count c =
    omega (arith, c.loop-bookie.invariant.within, c.count_if-count.ensures, some_count c.is_writable_stopped.result 1)

pub loop-bookie-preserved : goal.loop-bookie-preserved
loop-bookie-preserved c = record {
  counted =
      omega (
        arith,
        c.loop-bookie.invariant.counted,
        c.count_if-count.ensures,
        ap (λ (b : Bool). cond {A = ℕ} b 1 0) c.is_writable_stopped.ensures,
        count-range_more (λ b. is_flagged c.args.stopped.now b && is_writable (bookies_of c.args.bookies.now) none b) c.loop-bookie.bookie,
      );
  within = omega (arith, c.loop-bookie.invariant.within, c.count_if-count.ensures, some_count c.is_writable_stopped.result 1);
}
