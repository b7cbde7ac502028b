use Rattle.std.proofs.Common.{ℕ, Bool, cond, ap, arith}
use Rattle.reh_census.specs.Bookies.{bookies_of, is_flagged, is_writable}
use Rattle.reh_census.proofs.RangeLaws.{count-range_more}
use Rattle.reh_rules.proofs.racks.count_writable.Goals as goal

pub loop-bookie-preserved : goal.loop-bookie-preserved
loop-bookie-preserved c = record {
  counted =
      omega (
        arith,
        c.loop-bookie.invariant.counted,
        c.one_if-count.ensures.value,
        ap (λ (b : Bool). cond {A = ℕ} b 1 0) c.is_writable.ensures,
        count-range_more (is_writable (bookies_of c.args.bookies.now) (is_flagged c.args.stopped.now)) c.loop-bookie.bookie,
      );
  within = omega (arith, c.loop-bookie.invariant.within, c.one_if-count.ensures.within);
}
