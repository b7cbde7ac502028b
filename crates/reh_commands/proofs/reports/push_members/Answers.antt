use Rattle.std.proofs.Common.{◌∙◌, arith}
use Rattle.reh_commands.proofs.ReportLaws.{member_more}
use Rattle.reh_commands.proofs.reports.push_members.Goals as goal

pub loop-i-preserved : goal.loop-i-preserved
loop-i-preserved c = rw c.in_ok-push_member.ensures (member_more c.args.bookies.now _ c.loop-i.i c.args.names.now (omega arith) ∙ c.loop-i.invariant)
