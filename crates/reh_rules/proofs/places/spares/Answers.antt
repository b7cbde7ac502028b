use Rattle.std.proofs.Common.{ℕ, Bool, cond, ap, arith}
use Rattle.std.proofs.Common.{◌&&◌, not}
use Rattle.reh_census.specs.Bookies.{bookies_of, is_flagged, is_writable}
use Rattle.reh_census.specs.Copies.{is_in}
use Rattle.reh_census.proofs.RangeLaws.{count-range_more}
use Rattle.reh_rules.proofs.places.spares.Goals as goal

pub loop-bookie-preserved : goal.loop-bookie-preserved
loop-bookie-preserved c = record {
  counted =
      omega (
        arith,
        c.loop-bookie.invariant.counted,
        c.one_if-count.ensures.value,
        ap (λ (b : Bool). cond {A = ℕ} b 1 0) c.is_spare.ensures,
        count-range_more (λ b. is_writable (bookies_of c.args.bookies.now) (is_flagged c.args.stopped.now) b && not (is_in c.args.members.now b)) c.loop-bookie.bookie,
      );
  within = omega (arith, c.loop-bookie.invariant.within, c.one_if-count.ensures.within);
}
