-- One bookie more, and none that is left.
use Rattle.std.proofs.Common.{ap, length, arith}
use Rattle.reh_run_json.proofs.ReportLaws.{bookie-more, bookies-end}
use Rattle.reh_run_json.proofs.TokenLaws.{leaves-more, leaves-none}
use Rattle.reh_run_json.proofs.reports.add_each_bookie.Goals as goal

pub loop-i-preserved : goal.loop-i-preserved
loop-i-preserved c =
    leaves-more _ _ _ _ _ _ _
    (bookie-more c.args.state.now c.loop-i.i c.args.state.now.names (omega (arith, ap length c.names.ensures.names)))
    c.loop-i.invariant c.in_ok-add_bookie_at.ensures

pub returns : goal.returns
returns c =
    leaves-none _ _ _ _
    (bookies-end c.args.state.now c.loop-i.i c.args.state.now.names (omega (arith, ap length c.names.ensures.names)))
    c.loop-i.invariant
