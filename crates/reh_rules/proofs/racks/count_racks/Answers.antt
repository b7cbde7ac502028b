use Rattle.std.proofs.Common.{ℕ, Bool, cond, ap, arith}
use Rattle.reh_census.specs.Bookies.{bookies_of, is_flagged}
use Rattle.reh_census.specs.Tails.{has_writable}
use Rattle.reh_census.proofs.RangeLaws.{count-range_more}
use Rattle.reh_rules.proofs.racks.count_racks.Goals as goal

pub loop-rack-preserved : goal.loop-rack-preserved
loop-rack-preserved c = record {
  counted =
      omega (
        arith,
        c.loop-rack.invariant.counted,
        c.one_if-count.ensures.value,
        ap (λ (b : Bool). cond {A = ℕ} b 1 0) c.has_writable.ensures,
        count-range_more (has_writable (bookies_of c.args.bookies.now) (is_flagged c.args.stopped.now)) c.loop-rack.rack,
      );
  within = omega (arith, c.loop-rack.invariant.within, c.one_if-count.ensures.within);
}
