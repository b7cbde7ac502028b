use Rattle.std.proofs.Common.{◌∙◌, ap, length, arith}
use Rattle.reh_commands.proofs.ReportLaws.{bookie_more}
use Rattle.reh_commands.proofs.reports.push_bookies.Goals as goal

pub loop-i-preserved : goal.loop-i-preserved
loop-i-preserved c = rw c.in_ok-push_bookie.ensures (bookie_more c.args.state.now _ c.loop-i.i c.args.state.now.names (omega (arith, ap length c.names.ensures.names)) ∙ c.loop-i.invariant)
